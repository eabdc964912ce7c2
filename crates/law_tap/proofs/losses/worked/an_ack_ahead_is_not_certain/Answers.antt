use Rattle.law_tap.proofs.WorkedLosses.{ack_alone, ack_unseen, read_lossy, read_not_certain}
use Rattle.law_tap.proofs.WorkedWrite.{port_broken}
use Rattle.law_tap.proofs.losses.worked.an_ack_ahead_is_not_certain.Goals as goal

pub returns-clause-unlawful : goal.returns-clause-unlawful
returns-clause-unlawful c = ack_alone

pub returns-clause-seen : goal.returns-clause-seen
returns-clause-seen c = ack_unseen

pub returns-clause-broken : goal.returns-clause-broken
returns-clause-broken c = port_broken

pub returns-clause-lawful : goal.returns-clause-lawful
returns-clause-lawful c = read_lossy

pub returns-clause-certain : goal.returns-clause-certain
returns-clause-certain c = read_not_certain
