use Rattle.net_udp.proofs.CopiesLemmas.Told.{near_told}
use Rattle.net_udp.proofs.copies.laws.near_packet_is_told.Goals as goal

pub returns : goal.returns
returns c = near_told
