use Rattle.net_udp.proofs.FragmentsLemmas.Distinct.{made_in_any_order}
use Rattle.net_udp.proofs.fragments.laws.parts_in_any_order_are_put_together.Goals as goal

pub returns : goal.returns
returns c = made_in_any_order
