use Rattle.net_udp.proofs.RecordingLemmas.Lossless.{begins_lossless, lost_none}
use Rattle.net_udp.proofs.recording.laws.classic_recordings_lose_nothing.Goals as goal

pub returns-clause-begins : goal.returns-clause-begins
returns-clause-begins c reader bytes history stands = begins_lossless reader bytes history stands

pub returns-clause-loses : goal.returns-clause-loses
returns-clause-loses c reader bytes history stands = lost_none reader bytes history stands
