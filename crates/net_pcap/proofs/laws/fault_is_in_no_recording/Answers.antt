use Rattle.net_pcap.proofs.OneReading.{fault_or_recording}
use Rattle.net_pcap.proofs.laws.fault_is_in_no_recording.Goals as goal

pub returns : goal.returns
returns c = fault_or_recording
