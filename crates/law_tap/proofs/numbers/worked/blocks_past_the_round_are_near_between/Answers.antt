use Rattle.std.proofs.Common.{inr, arith}
use Rattle.law_tap.proofs.numbers.worked.blocks_past_the_round_are_near_between.Goals as goal

pub returns-clause-near : goal.returns-clause-near
returns-clause-near c = (
  inr (omega arith, omega arith),
  (
    inr (omega arith, omega arith),
    (inr (omega arith, omega arith), (inr (omega arith, omega arith), (inr (omega arith, omega arith), tt))),
  ),
)
