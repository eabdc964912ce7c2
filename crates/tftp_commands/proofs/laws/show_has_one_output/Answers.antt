use Rattle.tftp_commands.proofs.OneShown.{one_shown}
use Rattle.tftp_commands.proofs.laws.show_has_one_output.Goals as goal

pub returns : goal.returns
returns c = one_shown
