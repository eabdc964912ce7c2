use Rattle.tests_worked.proofs.ReadShown.{only_two_bytes, same_two_bytes}
use Rattle.tests_worked.proofs.worked_cases.one_block_read_has_one_meaning.Goals as goal

pub returns-clause-only : goal.returns-clause-only
returns-clause-only c = only_two_bytes

pub returns-clause-same : goal.returns-clause-same
returns-clause-same c = same_two_bytes
