use Rattle.std.proofs.Common.{refl}
use Rattle.law_model.specs.{PortRule}
use Rattle.law_end.specs.{Rule}
use Rattle.tests_worked.specs.{at_server, only_is_asked, comes_to_service}
use Rattle.tests_worked.proofs.ByRules.{refused_verdict}
use Rattle.tests_worked.proofs.Strays.{other_port_refused}
use Rattle.tests_worked.proofs.worked_strays.nothing_strays_to_a_silent_server.Goals as goal

pub returns-clause-refused : goal.returns-clause-refused
returns-clause-refused c = other_port_refused

pub returns-clause-verdict : goal.returns-clause-verdict
returns-clause-verdict c = refused_verdict at_server only_is_asked comes_to_service (Rule.Port PortRule.Foreign) 2 refl refl other_port_refused
