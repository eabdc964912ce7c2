use Rattle.net_udp.proofs.FragmentsLemmas.Times.{within}
use Rattle.net_udp.proofs.fragments.laws.fragments_come_within_a_minute.Goals as goal

pub returns : goal.returns
returns c = within
