use Rattle.tests_worked.proofs.ErrorVerdicts.{refused_verdict, refused_again_verdict, given_up_verdict, given_up_again_verdict, after_verdict}
use Rattle.tests_worked.proofs.worked_verdicts.error_ends_the_transfer.Goals as goal

pub returns-clause-refused : goal.returns-clause-refused
returns-clause-refused c = refused_verdict

pub returns-clause-refused_twice : goal.returns-clause-refused_twice
returns-clause-refused_twice c = refused_again_verdict

pub returns-clause-given_up : goal.returns-clause-given_up
returns-clause-given_up c = given_up_verdict

pub returns-clause-given_up_twice : goal.returns-clause-given_up_twice
returns-clause-given_up_twice c = given_up_again_verdict

pub returns-clause-block_after_error : goal.returns-clause-block_after_error
returns-clause-block_after_error c = after_verdict
