use Rattle.tftp_nego.proofs.Tested.{no_fault}
use Rattle.law_end.proofs.laws.agreed_options_have_no_fault.Goals as goal

pub returns : goal.returns
returns c = λ rollover request oack may some. no_fault rollover request oack some may
