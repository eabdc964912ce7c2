use Rattle.std.proofs.Common.{refl}
use Rattle.tftp_packet.specs.{Short}
use Rattle.law_model.specs.Model.{two_bytes}
use Rattle.law_end.specs.{Rule}
use Rattle.tests_worked.specs.{at_client, comes_astray, only_asked, read_from_first_port}
use Rattle.tests_worked.proofs.ByRules.{refused_verdict}
use Rattle.tests_worked.proofs.Strays.{first_is_read, first_port_is_shown}
use Rattle.tests_worked.proofs.Verdicts.{accepted}
use Rattle.tests_worked.proofs.worked_strays.first_to_answer_is_the_server.Goals as goal

pub returns-clause-shown : goal.returns-clause-shown
returns-clause-shown c = first_port_is_shown

pub returns-clause-accepted : goal.returns-clause-accepted
returns-clause-accepted c = accepted at_client two_bytes read_from_first_port first_port_is_shown

pub returns-clause-read : goal.returns-clause-read
returns-clause-read c = first_is_read

pub returns-clause-verdict : goal.returns-clause-verdict
returns-clause-verdict c = refused_verdict at_client only_asked comes_astray (Rule.Malformed Short) 2 refl refl first_is_read
