use Rattle.net_pcap.proofs.OneReading.{recording_one}
use Rattle.net_pcap.proofs.laws.recording_has_one_reading.Goals as goal

pub returns : goal.returns
returns c = recording_one
