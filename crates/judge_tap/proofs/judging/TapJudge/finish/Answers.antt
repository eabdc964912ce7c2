use Rattle.std.proofs.Common.{sym, subst, ap, ◌∙◌}
use Rattle.law_tap.specs.{transfer_between}
use Rattle.judge_tap.specs.{IsKeptAtTap, TapJudge}
use Rattle.judge_tap.proofs.TapVerdictFound.{nothing_said}
use Rattle.judge_tap.proofs.judging.TapJudge.finish.Goals as goal

pub returns-in-Some-into_transfer-clause-verdict : goal.returns-in-Some-into_transfer-clause-verdict
returns-in-Some-into_transfer-clause-verdict g c = λ s earlier is.
    let there = sym (ap (λ (j : TapJudge). j.state.transfer) c.self.view_is) ∙ sym c.into_transfer.ensures ∙ c.in-Some-into_transfer.is in
    c.finish.ensures s earlier is.apart is.lawful (subst (IsKeptAtTap s (transfer_between s earlier)) there is.kept.kept) (ap (λ (j : TapJudge). j.fed) c.self.view_is ∙ is.fed)

pub returns-in-None-clause-verdict : goal.returns-in-None-clause-verdict
returns-in-None-clause-verdict g c = λ s earlier is.
    let none = sym (ap (λ (j : TapJudge). j.state.transfer) c.self.view_is) ∙ sym c.into_transfer.ensures ∙ c.in-None.is in
    nothing_said s is.apart earlier is.lawful (subst (IsKeptAtTap s (transfer_between s earlier)) none is.kept.kept) c.self.inside.fed (ap (λ (j : TapJudge). j.fed) c.self.view_is ∙ is.fed)
