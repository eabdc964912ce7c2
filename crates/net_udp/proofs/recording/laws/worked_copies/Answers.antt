use Rattle.net_udp.proofs.RecordingLemmas.Examples.{copy_history, here_history, later_history}
use Rattle.net_udp.proofs.recording.laws.worked_copies.Goals as goal

pub returns-clause-copy : goal.returns-clause-copy
returns-clause-copy c = copy_history

pub returns-clause-here : goal.returns-clause-here
returns-clause-here c = here_history

pub returns-clause-later : goal.returns-clause-later
returns-clause-later c = later_history
