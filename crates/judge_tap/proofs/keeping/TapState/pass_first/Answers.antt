use Rattle.std.proofs.Common.{◌≡◌, List, None, Result, Err, rules, sym, subst, ap, ◌∙◌}
use Rattle.law_tap.specs.{transfer_between}
use Rattle.law_tap.proofs.StandingRules.{passing_stays}
use Rattle.tftp_judge.specs.{PassError}
use Rattle.judge_tap.specs.{AreTold, IsKeptAtTap, IsReadOf, IsToldIfBroken, TapState, passing_of}
use Rattle.judge_tap.proofs.ToldFound.{begun_told, if_broken, kept_heard}
use Rattle.judge_tap.proofs.TransferFound.{read_of}
use Rattle.judge_tap.proofs.keeping.TapState.pass_first.Goals as goal

pub returns-in_err-begun-clause-stands : goal.returns-in_err-begun-clause-stands
returns-in_err-begun-clause-stands g c = λ s earlier apart lawful kept source passing told.
    let d = passing_of c.args.datagram in
    let passed = transfer_between s earlier in
    let same : Err c.in_err-begun.field-0.0 ≡ c.from_residual.result = search rules in
    let heard = kept_heard s passed c.args.self.now.transfer kept in
    let read = subst (λ (l : List _). IsReadOf l c.read_packet-read.result) c.as_slice.ensures (read_of c.as_slice.result.now c.read_packet-read.result c.read_packet-read.ensures.found c.read_packet-read.ensures.fault) in
    subst (λ (r : Result (Unit {0}) PassError). IsToldIfBroken s earlier d r c.standing_said-self-inside.result) same
    (if_broken s earlier d c.in_err-begun.field-0.0 c.standing_said-self-inside.result
    (c.standing_said-self-inside.ensures s earlier d apart lawful heard told read source (passing_stays s apart earlier d passing)))

pub returns-clause-told : goal.returns-clause-told
returns-clause-told g c = λ s earlier apart passes kept follows source passing told.
    let d = passing_of c.args.datagram in
    let passed = transfer_between s earlier in
    let none : IsKeptAtTap s passed None = subst (IsKeptAtTap s passed) c.requires.none kept in
    let kept_told : AreTold c.self.inside.told s earlier = subst (λ (k : TapState). AreTold k.told s earlier) (sym c.self.view_is) told in
    let ports : c.rollover-rollover.result ≡ s.rollover = c.rollover-rollover.ensures ∙ ap (λ (k : TapState). k.ports.sides.rollover) c.self.view_is ∙ follows in
    begun_told s earlier d apart passing c.args.from source c.in_ok-begun.field-0 (c.in_ok-begun.ensures.finds s earlier apart passes.1 none ports source passing) c.self.inside.told kept_told
