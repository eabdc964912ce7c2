use Rattle.net_udp.proofs.RecordingLemmas.Examples.{datagram_fate, last_history}
use Rattle.net_udp.proofs.recording.laws.worked_fragments.Goals as goal

pub returns-clause-history : goal.returns-clause-history
returns-clause-history c = last_history

pub returns-clause-datagram : goal.returns-clause-datagram
returns-clause-datagram c = datagram_fate
