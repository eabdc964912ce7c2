use Rattle.tftp_capture.proofs.Canonical.{canonical_is_read, hosts_are_read}
use Rattle.tftp_capture.proofs.laws.canonical_text_is_read.Goals as goal

pub returns-clause-one : goal.returns-clause-one
returns-clause-one c = canonical_is_read

pub returns-clause-two : goal.returns-clause-two
returns-clause-two c = hosts_are_read
