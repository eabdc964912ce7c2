use Rattle.net_pcap.proofs.OneFault.{fault_one}
use Rattle.net_pcap.proofs.laws.fault_is_one.Goals as goal

pub returns : goal.returns
returns c = fault_one
