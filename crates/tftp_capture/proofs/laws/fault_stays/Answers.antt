use Rattle.tftp_capture.proofs.Staying.{stays}
use Rattle.tftp_capture.proofs.laws.fault_stays.Goals as goal

pub returns : goal.returns
returns c = stays
