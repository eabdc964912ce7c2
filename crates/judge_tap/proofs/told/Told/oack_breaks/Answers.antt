use Rattle.std.proofs.Common.{◌≡◌, Option, refl, sym, subst, ◌∙◌}
use Rattle.tftp_packet.specs.{OptionMap, Rollover, map_of}
use Rattle.tftp_nego.specs.{FirstFault, NegoFault}
use Rattle.law_tap.specs.{FitsAgreed, IsFair}
use Rattle.judge_tap.specs.{AreTold, Told}
use Rattle.judge_tap.proofs.ToldFound.{oack_after, oack_faulty, oack_first, oack_unknown}
use Rattle.judge_tap.proofs.told.Told.oack_breaks.Goals as goal

pub returns-then-not-self : goal.returns-then-not-self
returns-then-not-self c = λ s earlier d e apart passes are request says right.
    oack_unknown s apart earlier passes d e c.args.asked.now request c.args.self.now are (map_of c.args.options.now) says right

pub returns-in-Some : goal.returns-in-Some
returns-in-Some c = λ s earlier d e apart passes are request says right.
    let was = subst (λ (t : Told). AreTold t s earlier) (sym c.self.view_is) are in
    oack_after s apart earlier passes d e c.args.asked.now request _ was (map_of c.args.options.now) says right c.in-Some.agreed c.if-not-self.false c.in-Some.is c.same_options.result
    (λ is. sym c.options.ensures ∙ c.same_options.ensures.0 is) (λ same. c.same_options.ensures.1 (c.options.ensures ∙ same)) _ refl

pub returns-in-Ok : goal.returns-in-Ok
returns-in-Ok c = λ s earlier d e apart passes are request says right.
    let was = subst (λ (t : Told). AreTold t s earlier) (sym c.self.view_is) are in
    let options = map_of c.args.options.now in
    let ok = c.in-Ok.ensures.ok in
    let fair : IsFair s.rollover c.args.asked.now options = subst (λ (r : Option Rollover). IsFair r c.args.asked.now options) was.rollover (subst (IsFair c.self.inside.rollover c.args.asked.now) ok.0 (record { may = ok.2; some = ok.1 })) in
    oack_first s apart earlier passes d e c.args.asked.now request _ was options says right c.if-not-self.false c.in-None.is fair c.fits_agreed.result
    (λ is. subst (λ (o : OptionMap). FitsAgreed c.args.asked.now o c.self.inside.figures) ok.0 (c.fits_agreed.ensures.0 is)) (λ fits. c.fits_agreed.ensures.1 (subst (λ (o : OptionMap). FitsAgreed c.args.asked.now o c.self.inside.figures) (sym ok.0) fits)) _ refl

pub returns-in-Err-Memory : goal.returns-in-Err-Memory
returns-in-Err-Memory c = λ s earlier d e apart passes are request says right.
    oack_unknown s apart earlier passes d e c.args.asked.now request c.args.self.now are (map_of c.args.options.now) says right

pub returns-in-Err-Broken : goal.returns-in-Err-Broken
returns-in-Err-Broken c = λ s earlier d e apart passes are request says right.
    let known : c.in-Err-Broken.field-0 ≡ NegoFault.Memory → ⊥ = λ memory. let is = c.in-Err-Broken.field-0-is in absurd (cc) in
    let was = subst (λ (t : Told). AreTold t s earlier) (sym c.self.view_is) are in
    oack_faulty s apart earlier passes d e c.args.asked.now request c.args.self.now are (map_of c.args.options.now) says right c.in-Err-Broken.field-0 known
    (subst (λ (r : Option Rollover). FirstFault r c.args.asked.now (map_of c.args.options.now) c.in-Err-Broken.field-0) was.rollover ((c.agree.ensures.fault c.in-Err-Broken.field-0 known).0 c.in-Err-Broken.is))

pub returns-in-Err-BeyondBlock65535 : goal.returns-in-Err-BeyondBlock65535
returns-in-Err-BeyondBlock65535 c = λ s earlier d e apart passes are request says right.
    let known : c.in-Err-BeyondBlock65535.field-0 ≡ NegoFault.Memory → ⊥ = λ memory. let is = c.in-Err-BeyondBlock65535.field-0-is in absurd (cc) in
    let was = subst (λ (t : Told). AreTold t s earlier) (sym c.self.view_is) are in
    oack_faulty s apart earlier passes d e c.args.asked.now request c.args.self.now are (map_of c.args.options.now) says right c.in-Err-BeyondBlock65535.field-0 known
    (subst (λ (r : Option Rollover). FirstFault r c.args.asked.now (map_of c.args.options.now) c.in-Err-BeyondBlock65535.field-0) was.rollover ((c.agree.ensures.fault c.in-Err-BeyondBlock65535.field-0 known).0 c.in-Err-BeyondBlock65535.is))
