use Rattle.law_model.proofs.ModelLemmas.Blocks.{blocks_sent, block_of_sender}
use Rattle.law_model.proofs.model.laws.blocks_are_sent_in_order.Goals as goal

pub returns-clause-up_to : goal.returns-clause-up_to
returns-clause-up_to c = blocks_sent

pub returns-clause-sender : goal.returns-clause-sender
returns-clause-sender c = block_of_sender
