use Rattle.tftp_capture.proofs.Readings.{reads_same}
use Rattle.tftp_capture.proofs.laws.text_has_one_reading.Goals as goal

pub returns : goal.returns
returns c = reads_same
