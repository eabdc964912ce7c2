use Rattle.net_udp.proofs.RecordingLemmas.Gathering.{whole_put_together}
use Rattle.net_udp.proofs.recording.laws.content_is_of_its_frames.Goals as goal

pub returns : goal.returns
returns c = whole_put_together
