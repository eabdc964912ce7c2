use Rattle.judge_tap.proofs.WorkedLossy.{ack_takes_none, block_again, block_takes}
use Rattle.judge_tap.proofs.worked_losses.a_block_takes_memory_once.Goals as goal

pub returns-clause-first : goal.returns-clause-first
returns-clause-first c = block_takes

pub returns-clause-again : goal.returns-clause-again
returns-clause-again c = block_again

pub returns-clause-ack : goal.returns-clause-ack
returns-clause-ack c = ack_takes_none
