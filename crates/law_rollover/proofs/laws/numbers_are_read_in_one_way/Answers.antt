use Rattle.law_rollover.proofs.laws.numbers_are_read_in_one_way.Goals as goal
use Rattle.law_rollover.proofs.Readings.{read_all_back, all_near, all_numbered}

pub returns-clause-only : goal.returns-clause-only
returns-clause-only c r h near = read_all_back r h near

pub returns-clause-near : goal.returns-clause-near
returns-clause-near c r numbers small = all_near r numbers small

pub returns-clause-numbered : goal.returns-clause-numbered
returns-clause-numbered c r numbers small = all_numbered r numbers small
