use Rattle.std.proofs.Common.{sym, ap, ◌∙◌}
use Rattle.law_end.specs.Aborted.{by_of}
use Rattle.law_end.proofs.laws.an_error_is_of_the_end_that_sent_it.Goals as goal

pub returns-clause-own : goal.returns-clause-own
returns-clause-own c d by code is out = sym is.0 ∙ ap by_of out

pub returns-clause-others : goal.returns-clause-others
returns-clause-others c d by code is goes_in = sym is.0 ∙ ap by_of goes_in
