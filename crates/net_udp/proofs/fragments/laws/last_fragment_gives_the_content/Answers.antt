use Rattle.net_udp.proofs.FragmentsLemmas.Fragmented.{last_gives}
use Rattle.net_udp.proofs.fragments.laws.last_fragment_gives_the_content.Goals as goal

pub returns : goal.returns
returns c = last_gives
