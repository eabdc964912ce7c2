use Rattle.law_model.specs.Model.Machines.{sender_of, receiver_of}
use Rattle.law_model.proofs.ModelLemmas.Starts.{oack_answers, data_started, zero_answers}
use Rattle.law_model.proofs.model.laws.answers_come_after_what_they_answer.Goals as goal

pub returns-clause-oack : goal.returns-clause-oack
returns-clause-oack c = oack_answers

pub returns-clause-data : goal.returns-clause-data
returns-clause-data c = λ m wire steps run. data_started m wire steps run (sender_of m.side)

pub returns-clause-ack_zero : goal.returns-clause-ack_zero
returns-clause-ack_zero c = λ m wire steps run. zero_answers m wire steps run (receiver_of m.side)
