use Rattle.net_pcap.proofs.Lossless.{begins_as_classic, classic_loses_none, more_classic}
use Rattle.net_pcap.proofs.laws.classic_recordings_lose_nothing.Goals as goal

pub returns-clause-begins : goal.returns-clause-begins
returns-clause-begins c reader bytes frames stands = begins_as_classic reader bytes frames stands

pub returns-clause-loses : goal.returns-clause-loses
returns-clause-loses c reader bytes frames stands = classic_loses_none reader bytes frames stands

pub returns-clause-goes_on : goal.returns-clause-goes_on
returns-clause-goes_on c bytes more classic = more_classic bytes more classic
