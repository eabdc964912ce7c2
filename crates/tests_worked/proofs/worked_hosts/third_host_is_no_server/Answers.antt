use Rattle.std.proofs.Common.{refl}
use Rattle.tests_worked.proofs.Hosts.{third_is_shown, third_refused}
use Rattle.tests_worked.proofs.worked_hosts.third_host_is_no_server.Goals as goal

pub returns-clause-stray : goal.returns-clause-stray
returns-clause-stray c = refl

pub returns-clause-answered : goal.returns-clause-answered
returns-clause-answered c = third_is_shown

pub returns-clause-acknowledged : goal.returns-clause-acknowledged
returns-clause-acknowledged c = third_refused
