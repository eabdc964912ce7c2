use Rattle.tftp_commands.proofs.OneOutput.{one_checked}
use Rattle.tftp_commands.proofs.laws.check_has_one_output.Goals as goal

pub returns : goal.returns
returns c = λ rollover source. one_checked c.text_has_one_verdict.ensures source rollover
