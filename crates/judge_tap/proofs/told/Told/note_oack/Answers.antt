use Rattle.std.proofs.Common.{inl, inr, refl, sym, ap, ◌∙◌}
use Rattle.judge_tap.specs.{Told}
use Rattle.judge_tap.proofs.told.Told.note_oack.Goals as goal

pub returns-in-Some-clause-noted : goal.returns-in-Some-clause-noted
returns-in-Some-clause-noted c =
    let is = ap (λ (t : Told). t.offered) (sym c.self.view_is) ∙ c.in-Some.is in
    inr (refl, inl (c.in-Some.field-0, is, is))
