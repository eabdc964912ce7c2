use Rattle.net_udp.proofs.FramesLemmas.FaultOrder.{packet_one}
use Rattle.net_udp.proofs.frames.laws.frame_spells_one_packet.Goals as goal

pub returns : goal.returns
returns c = packet_one
