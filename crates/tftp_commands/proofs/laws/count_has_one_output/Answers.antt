use Rattle.tftp_commands.proofs.OneOutput.{one_counted}
use Rattle.tftp_commands.proofs.laws.count_has_one_output.Goals as goal

pub returns : goal.returns
returns c = λ rollover source. one_counted c.text_has_one_verdict.ensures source rollover
