use Rattle.tests_worked.proofs.ReadShown.{begin_is_lawful, begin_shows_nothing}
use Rattle.tests_worked.proofs.worked_cases.read_without_its_ack_is_not_complete.Goals as goal

pub returns-clause-lawful : goal.returns-clause-lawful
returns-clause-lawful c = begin_is_lawful

pub returns-clause-shows_nothing : goal.returns-clause-shows_nothing
returns-clause-shows_nothing c = begin_shows_nothing
