use Rattle.net_udp.proofs.FramesLemmas.Addresses.{written_one}
use Rattle.net_udp.proofs.frames.laws.addresses_are_one_if_written_the_same.Goals as goal

pub returns : goal.returns
returns c = written_one
