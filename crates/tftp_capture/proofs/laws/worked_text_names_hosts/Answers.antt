use Rattle.tftp_capture.proofs.Named.{named_is_read}
use Rattle.tftp_capture.proofs.laws.worked_text_names_hosts.Goals as goal

pub returns : goal.returns
returns c = named_is_read
