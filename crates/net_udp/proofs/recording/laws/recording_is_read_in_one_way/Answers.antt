use Rattle.net_udp.proofs.RecordingLemmas.OneWay.{apart_one, fails_one, whole_one}
use Rattle.net_udp.proofs.recording.laws.recording_is_read_in_one_way.Goals as goal

pub returns-clause-whole : goal.returns-clause-whole
returns-clause-whole c = whole_one

pub returns-clause-fault : goal.returns-clause-fault
returns-clause-fault c = fails_one

pub returns-clause-apart : goal.returns-clause-apart
returns-clause-apart c = apart_one
