use Rattle.std.proofs.Common.{◌∷◌, Ok, Some, sym, subst, ap, ◌∙◌, Option, ◌≡◌}
use Rattle.std.proofs.lemmas.Bool.{true≢false}
use Rattle.tftp_packet.specs.{Message, OptionMap, map_of}
use Rattle.tftp_packet.specs.{Rollover}
use Rattle.tftp_nego.specs.{FirstFault}
use Rattle.law_end.specs.{IsWrongKind}
use Rattle.law_end.specs.declared.rule.Rule.TheVariants as rule
use Rattle.law_tap.specs.{FitsAgreed, IsFair, LossyBreaks}
use Rattle.judge_tap.specs.{AreSaidNotes, FindsSaid, SaidNotes}
use Rattle.judge_tap.proofs.SaidAfter.{oack_again, oack_changed, oack_stopped, oack_taken, oack_unfit}
use Rattle.judge_tap.proofs.said_notes.SaidNotes.take_oack.Goals as goal

pub returns-then-same_options : goal.returns-then-same_options
returns-then-same_options c = λ s earlier d e are says right.
    let options = map_of c.args.options.now in
    subst (λ (n : SaidNotes). AreSaidNotes n s earlier → (IsWrongKind e n.asked.side (Message.Oack options) → ⊥) → FindsSaid s earlier d n.asked e (Message.Oack options) (AreSaidNotes n s (d ∷ earlier)) (Ok tt)) c.self.view_is
    (λ was kind. oack_again s earlier d e options says _ was kind c.in-Some.agreed c.in-Some.is (sym c.options.ensures ∙ c.same_options.ensures.0 c.if-same_options.true)) are right

pub returns-in-Some : goal.returns-in-Some
returns-in-Some c = λ s earlier d e are says right.
    let options = map_of c.args.options.now in
    subst (λ (n : SaidNotes). AreSaidNotes n s earlier → (IsWrongKind e n.asked.side (Message.Oack options) → ⊥) → LossyBreaks s earlier d n.asked e (Message.Oack options) rule.OackChanged) c.self.view_is
    (λ was kind. oack_changed s earlier d e options says _ was kind c.in-Some.agreed c.in-Some.is (λ same. true≢false (sym (c.same_options.ensures.1 (c.options.ensures ∙ same)) ∙ c.if-same_options.false))) are right

pub returns-in-Err : goal.returns-in-Err
returns-in-Err c = λ s earlier d e are says right.
    oack_stopped s earlier d e (map_of c.args.options.now) says c.args.self.now are right (ap (λ (n : SaidNotes). n.offered) (sym c.self.view_is) ∙ c.in-None.is) (Unit {0}) c.in-Err.fault c.stop_of.result c.stop_of.ensures
    (λ known. subst (λ (r : Option Rollover). FirstFault r c.args.self.now.asked (map_of c.args.options.now) c.in-Err.fault) are.rollover
    (subst (λ (n : SaidNotes). FirstFault n.rollover n.asked (map_of c.args.options.now) c.in-Err.fault) c.self.view_is ((c.agree.ensures.fault c.in-Err.fault known).0 c.in-Err.is)))

pub returns-then-not-fits_agreed : goal.returns-then-not-fits_agreed
returns-then-not-fits_agreed c = λ s earlier d e are says right.
    let options = map_of c.args.options.now in
    let ok = c.in-Ok.ensures.ok in
    let follows : c.self.inside.rollover ≡ s.rollover = ap (λ (n : SaidNotes). n.rollover) c.self.view_is ∙ are.rollover in
    let fair : IsFair s.rollover c.self.inside.asked options = subst (λ (r : Option Rollover). IsFair r c.self.inside.asked options) follows
    (subst (IsFair c.self.inside.rollover c.self.inside.asked) ok.0 (record { may = ok.2; some = ok.1 })) in
    subst (λ (n : SaidNotes). AreSaidNotes n s earlier → (IsWrongKind e n.asked.side (Message.Oack options) → ⊥) → LossyBreaks s earlier d n.asked e (Message.Oack options) rule.ReplyChanged) c.self.view_is
    (λ was kind. oack_unfit s earlier d e options says _ was kind c.in-None.is fair
    (λ fits. true≢false (sym (c.fits_agreed.ensures.1 (subst (λ (o : OptionMap). FitsAgreed c.self.inside.asked o c.self.inside.figures) (sym ok.0) fits)) ∙ c.if-not-fits_agreed.true))) are right

pub returns : goal.returns
returns c = λ s earlier d e are says right.
    let options = map_of c.args.options.now in
    let ok = c.in-Ok.ensures.ok in
    let follows : c.self.inside.rollover ≡ s.rollover = ap (λ (n : SaidNotes). n.rollover) c.self.view_is ∙ are.rollover in
    let fair : IsFair s.rollover c.self.inside.asked options = subst (λ (r : Option Rollover). IsFair r c.self.inside.asked options) follows
    (subst (IsFair c.self.inside.rollover c.self.inside.asked) ok.0 (record { may = ok.2; some = ok.1 })) in
    let after : OptionMap → SaidNotes = λ o. record { rollover = c.self.inside.rollover; asked = c.self.inside.asked; figures = c.self.inside.figures; offered = Some o; blocks = c.self.inside.blocks; errors = c.self.inside.errors } in
    subst (λ (n : SaidNotes). AreSaidNotes n s earlier → (IsWrongKind e n.asked.side (Message.Oack options) → ⊥) → FindsSaid s earlier d n.asked e (Message.Oack options) (AreSaidNotes (after c.in-Ok.agreed) s (d ∷ earlier)) (Ok tt)) c.self.view_is
    (λ was kind. subst (λ (o : OptionMap). FindsSaid s earlier d c.self.inside.asked e (Message.Oack options) (AreSaidNotes (after o) s (d ∷ earlier)) (Ok tt)) (sym ok.0)
    (oack_taken s earlier d e options says _ was kind c.in-None.is fair
    (subst (λ (o : OptionMap). FitsAgreed c.self.inside.asked o c.self.inside.figures) ok.0 (c.fits_agreed.ensures.0 c.if-not-fits_agreed.false)))) are right
