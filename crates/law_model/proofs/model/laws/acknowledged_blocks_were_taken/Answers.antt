use Rattle.law_model.specs.Model.Machines.{receiver_of}
use Rattle.law_model.proofs.ModelLemmas.Blocks.{ack_of_receiver, acknowledged_was_taken, acknowledged_was_sent}
use Rattle.law_model.proofs.model.laws.acknowledged_blocks_were_taken.Goals as goal

pub returns-clause-receiver : goal.returns-clause-receiver
returns-clause-receiver c = ack_of_receiver

pub returns-clause-taken : goal.returns-clause-taken
returns-clause-taken c = λ m wire steps run j k. acknowledged_was_taken m wire steps run (receiver_of m.side) j k

pub returns-clause-sent : goal.returns-clause-sent
returns-clause-sent c = acknowledged_was_sent
