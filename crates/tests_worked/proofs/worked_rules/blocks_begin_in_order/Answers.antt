use Rattle.tests_worked.proofs.Refused.{early_refused}
use Rattle.tests_worked.proofs.RefusedMore.{zero_block_refused}
use Rattle.tests_worked.proofs.worked_rules.blocks_begin_in_order.Goals as goal

pub returns-clause-early : goal.returns-clause-early
returns-clause-early c = early_refused

pub returns-clause-zero : goal.returns-clause-zero
returns-clause-zero c = zero_block_refused
