use Rattle.net_udp.proofs.RecordingLemmas.Overlapping.{across_history}
use Rattle.net_udp.proofs.recording.laws.worked_overlap.Goals as goal

pub returns-clause-history : goal.returns-clause-history
returns-clause-history c = across_history
