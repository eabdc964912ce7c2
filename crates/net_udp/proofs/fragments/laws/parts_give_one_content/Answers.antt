use Rattle.net_udp.proofs.FragmentsLemmas.Contents.{one_content}
use Rattle.net_udp.proofs.fragments.laws.parts_give_one_content.Goals as goal

pub returns : goal.returns
returns c = one_content
