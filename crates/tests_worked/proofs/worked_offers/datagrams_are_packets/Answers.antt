use Rattle.std.proofs.Common.{[], refl}
use Rattle.tftp_packet.specs.{AckLength, MailMode}
use Rattle.law_end.specs.{Rule}
use Rattle.tests_worked.specs.{at_client, read_without_its_ack, acknowledges_too_long, asks_for_mail}
use Rattle.tests_worked.proofs.ByRules.{refused_verdict}
use Rattle.tests_worked.proofs.Malformed.{ack_length_refused, mail_refused}
use Rattle.tests_worked.proofs.worked_offers.datagrams_are_packets.Goals as goal

pub returns-clause-ack : goal.returns-clause-ack
returns-clause-ack c = ack_length_refused

pub returns-clause-mail : goal.returns-clause-mail
returns-clause-mail c = mail_refused

pub returns-clause-ack_verdict : goal.returns-clause-ack_verdict
returns-clause-ack_verdict c = refused_verdict at_client read_without_its_ack acknowledges_too_long (Rule.Malformed AckLength) 3 refl refl ack_length_refused

pub returns-clause-mail_verdict : goal.returns-clause-mail_verdict
returns-clause-mail_verdict c = refused_verdict at_client [] asks_for_mail (Rule.Malformed MailMode) 1 refl refl mail_refused
