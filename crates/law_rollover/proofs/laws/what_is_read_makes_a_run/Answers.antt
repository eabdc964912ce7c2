use Rattle.std.proofs.Common.{sym, subst, ap, ◌∙◌}
use Rattle.law_model.specs.Model.{IsOneSided}
use Rattle.law_rollover.specs.{positions_of}
use Rattle.law_rollover.proofs.laws.what_is_read_makes_a_run.Goals as goal
use Rattle.law_rollover.proofs.Readings.{read_all_back, all_near, all_numbered}

pub returns : goal.returns
returns c r m wire e numbers small = (
  λ seen. subst (IsOneSided m wire e) (sym (read_all_back r seen.view seen.near) ∙ ap (positions_of r) seen.numbered)
      (c.one_side_makes_a_run.ensures.alone m wire e seen.view seen.run),
  λ sides. record {
    view = positions_of r numbers;
    run = c.one_side_makes_a_run.ensures.with_other m wire e (positions_of r numbers) sides;
    near = all_near r numbers small;
    numbered = all_numbered r numbers small;
  },
)
