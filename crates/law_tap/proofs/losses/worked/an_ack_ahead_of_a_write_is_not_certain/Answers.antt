use Rattle.law_tap.proofs.WorkedWrite.{ack_broken, write_lossy}
use Rattle.law_tap.proofs.losses.worked.an_ack_ahead_of_a_write_is_not_certain.Goals as goal

pub returns-clause-broken : goal.returns-clause-broken
returns-clause-broken c = ack_broken

pub returns-clause-lawful : goal.returns-clause-lawful
returns-clause-lawful c = write_lossy
