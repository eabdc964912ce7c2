use Rattle.net_udp.proofs.CopiesLemmas.Told.{came_before}
use Rattle.net_udp.proofs.copies.laws.copy_came_before.Goals as goal

pub returns : goal.returns
returns c = came_before
