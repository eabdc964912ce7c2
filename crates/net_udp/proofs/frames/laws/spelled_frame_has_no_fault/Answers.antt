use Rattle.net_udp.proofs.FramesLemmas.FaultOrder.{no_fault}
use Rattle.net_udp.proofs.frames.laws.spelled_frame_has_no_fault.Goals as goal

pub returns : goal.returns
returns c = no_fault
