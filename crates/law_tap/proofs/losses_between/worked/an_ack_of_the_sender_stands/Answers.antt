use Rattle.law_tap.proofs.WorkedLossyRules.{request_alone, sender_acknowledges, sender_certain}
use Rattle.law_tap.proofs.losses_between.worked.an_ack_of_the_sender_stands.Goals as goal

pub returns-clause-before : goal.returns-clause-before
returns-clause-before c = request_alone

pub returns-clause-broken : goal.returns-clause-broken
returns-clause-broken c = sender_acknowledges

pub returns-clause-certain : goal.returns-clause-certain
returns-clause-certain c = sender_certain
