use Rattle.net_udp.proofs.FramesLemmas.Datagrams.{udp_one, fault_one, no_fault}
use Rattle.net_udp.proofs.frames.laws.content_is_one_datagram.Goals as goal

pub returns-clause-one : goal.returns-clause-one
returns-clause-one c = udp_one

pub returns-clause-fault : goal.returns-clause-fault
returns-clause-fault c = fault_one

pub returns-clause-apart : goal.returns-clause-apart
returns-clause-apart c = no_fault
