use Rattle.law_tap.proofs.WorkedStanding.{ack_certain, ack_known, ack_refused}
use Rattle.law_tap.proofs.losses.worked.an_ack_of_the_sender_is_certain.Goals as goal

pub returns-clause-refused : goal.returns-clause-refused
returns-clause-refused c = ack_refused

pub returns-clause-known : goal.returns-clause-known
returns-clause-known c = ack_known

pub returns-clause-certain : goal.returns-clause-certain
returns-clause-certain c = ack_certain
