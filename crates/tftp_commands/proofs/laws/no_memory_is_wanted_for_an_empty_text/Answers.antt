use Rattle.tftp_commands.proofs.Memory.{empty_wants_none}
use Rattle.tftp_commands.proofs.laws.no_memory_is_wanted_for_an_empty_text.Goals as goal

pub returns : goal.returns
returns c = empty_wants_none
