use Rattle.tftp_commands.proofs.OneOutput.{one_extracted}
use Rattle.tftp_commands.proofs.laws.extract_has_one_output.Goals as goal

pub returns : goal.returns
returns c = λ rollover source. one_extracted c.text_has_one_verdict.ensures source rollover
