use Rattle.std.proofs.Common.{◌≡◌, [], Some, sym, subst, ap, ◌∙◌}
use Rattle.tftp_packet.specs.{RequestParts, meaning}
use Rattle.law_tap.specs.{FirstTapAsked, IsSaidBy, transfer_between}
use Rattle.judge_tap.specs.{AreNotes, AreTold, IsHeard, IsReadOf, Notes, TapState}
use Rattle.judge_tap.proofs.ToldFound.{first_told, malformed_told}
use Rattle.judge_tap.proofs.keeping.TapState.standing_said.Goals as goal

pub returns-in-Some : goal.returns-in-Some
returns-in-Some g c = λ s earlier d apart passes heard told read source goes.
    let passed = transfer_between s earlier in
    let there : c.args.self.now.transfer ≡ Some c.in-Some.transfer = sym (ap (λ (k : TapState). k.transfer) c.self.view_is) ∙ c.in-Some.is in
    let was : IsHeard s passed (Some c.in-Some.transfer) = subst (IsHeard s passed) there heard in
    let kept : AreTold c.self.inside.told s earlier = subst (λ (k : TapState). AreTold k.told s earlier) (sym c.self.view_is) told in
    c.standing.ensures s earlier d apart passes kept
    (subst (λ (q : RequestParts). FirstTapAsked s passed q) (sym c.asked.ensures) was.0) (subst (λ (n : Notes). AreNotes n s passed) (sym c.notes.ensures) was.1) read source goes

pub returns-in-Ok : goal.returns-in-Ok
returns-in-Ok g c = λ s earlier d apart passes heard told read source goes.
    let nothing : transfer_between s earlier ≡ [] = subst (IsHeard s (transfer_between s earlier)) (sym (ap (λ (k : TapState). k.transfer) c.self.view_is) ∙ c.in-None.is) heard in
    let says : IsSaidBy s c.args.from (meaning c.in-Ok.field-0) d = record { goes = goes; source = source; spells = subst (IsReadOf d.payload) c.in-Ok.is read } in
    first_told s apart earlier passes nothing d c.args.from (meaning c.in-Ok.field-0) says

pub returns-in-Err : goal.returns-in-Err
returns-in-Err g c = λ s earlier d apart passes heard told read source goes.
    malformed_told s apart earlier d goes c.in-Err.field-0 (subst (IsReadOf d.payload) c.in-Err.is read)
