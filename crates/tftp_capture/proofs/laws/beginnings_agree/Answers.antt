use Rattle.tftp_capture.proofs.Beginnings.{agree}
use Rattle.tftp_capture.proofs.laws.beginnings_agree.Goals as goal

pub returns : goal.returns
returns c = agree
