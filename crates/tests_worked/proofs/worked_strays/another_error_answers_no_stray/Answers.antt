use Rattle.std.proofs.Common.{refl}
use Rattle.law_model.specs.{PortRule}
use Rattle.law_end.specs.{Rule}
use Rattle.tests_worked.specs.{at_client, at_server, before_answering, answers_by_error_4, after_a_stray_at_server, server_answers_by_error_4}
use Rattle.tests_worked.proofs.ByRules.{refused_verdict}
use Rattle.tests_worked.proofs.Strays.{error_4_refused, server_error_4_refused}
use Rattle.tests_worked.proofs.worked_strays.another_error_answers_no_stray.Goals as goal

pub returns-clause-client : goal.returns-clause-client
returns-clause-client c = error_4_refused

pub returns-clause-server : goal.returns-clause-server
returns-clause-server c = server_error_4_refused

pub returns-clause-client_verdict : goal.returns-clause-client_verdict
returns-clause-client_verdict c = refused_verdict at_client before_answering answers_by_error_4 (Rule.Port PortRule.BadAnswer) 4 refl refl error_4_refused

pub returns-clause-server_verdict : goal.returns-clause-server_verdict
returns-clause-server_verdict c = refused_verdict at_server after_a_stray_at_server server_answers_by_error_4 (Rule.Port PortRule.BadAnswer) 4 refl refl server_error_4_refused
