use Rattle.tftp_commands.proofs.OneShown.{left_unshown}
use Rattle.tftp_commands.proofs.laws.memory_is_wanted_for_what_is_left.Goals as goal

pub returns : goal.returns
returns c = left_unshown
