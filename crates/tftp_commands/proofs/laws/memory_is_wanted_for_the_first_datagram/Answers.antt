use Rattle.tftp_commands.proofs.Memory.{first_taken, next_wanted, none_shown}
use Rattle.tftp_commands.proofs.laws.memory_is_wanted_for_the_first_datagram.Goals as goal

pub returns-clause-wanted : goal.returns-clause-wanted
returns-clause-wanted c = next_wanted

pub returns-clause-shown : goal.returns-clause-shown
returns-clause-shown c = none_shown

pub returns-clause-taken : goal.returns-clause-taken
returns-clause-taken c = first_taken
