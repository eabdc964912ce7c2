use Rattle.judge_tap.proofs.WorkedLossy.{block_first}
use Rattle.judge_tap.proofs.worked_losses.a_block_before_the_request_comes_first.Goals as goal

pub returns : goal.returns
returns c = block_first
