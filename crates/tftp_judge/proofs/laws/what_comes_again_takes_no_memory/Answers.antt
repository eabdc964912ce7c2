use Rattle.tftp_judge.proofs.TakenMemory.{no_ack, no_block, no_error}
use Rattle.tftp_judge.proofs.laws.what_comes_again_takes_no_memory.Goals as goal

pub returns-clause-ack : goal.returns-clause-ack
returns-clause-ack c = no_ack

pub returns-clause-block : goal.returns-clause-block
returns-clause-block c = no_block

pub returns-clause-error : goal.returns-clause-error
returns-clause-error c = no_error
