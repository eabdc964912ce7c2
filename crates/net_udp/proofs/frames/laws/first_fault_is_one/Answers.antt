use Rattle.net_udp.proofs.FramesLemmas.FaultOrder.{first_one}
use Rattle.net_udp.proofs.frames.laws.first_fault_is_one.Goals as goal

pub returns : goal.returns
returns c = first_one
