use Rattle.std.proofs.Common.{◌≡◌, Some, false, refl, sym, subst, ap, ◌∙◌}
use Rattle.tftp_packet.specs.{meaning}
use Rattle.judge_tap.specs.{IsKeptWithLosses, LossyState}
use Rattle.judge_tap.proofs.LossyFound.{notes_found}
use Rattle.judge_tap.proofs.lossy_state.LossyState.pass_packet.Goals as goal

pub returns-in-Some : goal.returns-in-Some
returns-in-Some c = λ s earlier d apart kept says.
    let notes : c.args.self.now.notes ≡ Some c.in-Some.notes = ap (λ (k : LossyState). k.notes) (sym c.self.view_is) ∙ c.in-Some.is in
    let early : c.args.self.now.late ≡ false = ap (λ (k : LossyState). k.late) (sym c.self.view_is) ∙ c.if-self.false in
    let was : IsKeptWithLosses s earlier false (Some c.in-Some.notes) = subst (λ b. IsKeptWithLosses s earlier b (Some c.in-Some.notes)) early (subst (IsKeptWithLosses s earlier c.args.self.now.late) notes kept.kept) in
    let state : LossyState = record { sides = c.self.inside.sides; notes = Some c.take.new.self; late = c.self.inside.late } in
    notes_found s earlier d c.args.from (meaning c.args.packet.now) says apart c.in-Some.notes c.take.new.self state (ap (λ (k : LossyState). k.sides) c.self.view_is ∙ kept.sides) c.if-self.false refl was c.take.result
    (c.take.ensures s earlier d apart was.2 says)
