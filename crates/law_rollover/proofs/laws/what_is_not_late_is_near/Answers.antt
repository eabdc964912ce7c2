use Rattle.law_rollover.proofs.laws.what_is_not_late_is_near.Goals as goal
use Rattle.law_rollover.proofs.Timely.{all_timely}

pub returns : goal.returns
returns c r m wire e h few view timely = all_timely m wire e r few h (c.one_side_makes_a_run.ensures.alone m wire e h view) timely
