use Rattle.tftp_commands.proofs.OneOutput.{one_normalised}
use Rattle.tftp_commands.proofs.laws.normal_has_one_output.Goals as goal

pub returns : goal.returns
returns c = λ rollover source. one_normalised c.text_has_one_verdict.ensures source rollover
