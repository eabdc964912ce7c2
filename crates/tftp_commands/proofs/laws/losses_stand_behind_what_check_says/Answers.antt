use Rattle.tftp_commands.proofs.Told.{begins_with_check}
use Rattle.tftp_commands.proofs.laws.losses_stand_behind_what_check_says.Goals as goal

pub returns : goal.returns
returns c = begins_with_check
