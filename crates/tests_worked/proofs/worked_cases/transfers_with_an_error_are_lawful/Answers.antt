use Rattle.tests_worked.proofs.ErrorsShown.{refused_lawful, refused_again_lawful, given_up_lawful, given_up_again_lawful, after_lawful}
use Rattle.tests_worked.proofs.worked_cases.transfers_with_an_error_are_lawful.Goals as goal

pub returns-clause-refused : goal.returns-clause-refused
returns-clause-refused c = refused_lawful

pub returns-clause-refused_twice : goal.returns-clause-refused_twice
returns-clause-refused_twice c = refused_again_lawful

pub returns-clause-given_up : goal.returns-clause-given_up
returns-clause-given_up c = given_up_lawful

pub returns-clause-given_up_twice : goal.returns-clause-given_up_twice
returns-clause-given_up_twice c = given_up_again_lawful

pub returns-clause-block_after_error : goal.returns-clause-block_after_error
returns-clause-block_after_error c = after_lawful
