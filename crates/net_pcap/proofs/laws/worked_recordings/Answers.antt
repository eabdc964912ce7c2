use Rattle.net_pcap.proofs.WorkedRecordings.{classic_is, blocks_are}
use Rattle.net_pcap.proofs.laws.worked_recordings.Goals as goal

pub returns-clause-classic : goal.returns-clause-classic
returns-clause-classic c = classic_is

pub returns-clause-blocks : goal.returns-clause-blocks
returns-clause-blocks c = blocks_are
