use Rattle.net_pcap.proofs.WorkedRecordings.{statistics_is}
use Rattle.net_pcap.proofs.laws.worked_losses.Goals as goal

pub returns-clause-block : goal.returns-clause-block
returns-clause-block c = statistics_is
