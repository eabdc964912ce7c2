use Rattle.tests_worked.proofs.RefusedErrors.{refused_passes, refused_again_passes, given_up_passes, given_up_again_passes, stopped_passes, stopped_after_passes, after_passes}
use Rattle.tests_worked.proofs.worked_rules.transfers_with_an_error_break_no_rule.Goals as goal

pub returns-clause-refused : goal.returns-clause-refused
returns-clause-refused c = refused_passes

pub returns-clause-refused_twice : goal.returns-clause-refused_twice
returns-clause-refused_twice c = refused_again_passes

pub returns-clause-given_up : goal.returns-clause-given_up
returns-clause-given_up c = given_up_passes

pub returns-clause-given_up_twice : goal.returns-clause-given_up_twice
returns-clause-given_up_twice c = given_up_again_passes

pub returns-clause-stopped_at_the_end : goal.returns-clause-stopped_at_the_end
returns-clause-stopped_at_the_end c = stopped_passes

pub returns-clause-stopped_after_the_end : goal.returns-clause-stopped_after_the_end
returns-clause-stopped_after_the_end c = stopped_after_passes

pub returns-clause-block_after_error : goal.returns-clause-block_after_error
returns-clause-block_after_error c = after_passes
