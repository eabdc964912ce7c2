use Rattle.net_udp.proofs.FragmentsLemmas.Contents.{in_any_order}
use Rattle.net_udp.proofs.fragments.laws.parts_in_any_order_give_their_content.Goals as goal

pub returns : goal.returns
returns c = in_any_order
