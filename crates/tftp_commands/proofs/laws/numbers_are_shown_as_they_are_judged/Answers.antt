use Rattle.tftp_commands.proofs.ShownBlocks.{judged_high}
use Rattle.tftp_commands.proofs.laws.numbers_are_shown_as_they_are_judged.Goals as goal

pub returns : goal.returns
returns c = judged_high
