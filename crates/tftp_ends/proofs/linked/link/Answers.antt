use Rattle.std.proofs.Common.{refl}
use Rattle.tftp_ends.proofs.RowLemmas.{kept_part, link_on}
use Rattle.tftp_ends.proofs.linked.link.Goals as goal

pub returns-clause-linked : goal.returns-clause-linked
returns-clause-linked c = link_on c.args.latest.now c.args.links.now c.args.index c.args.row c.index-links-index.result _ c.requires.linked c.requires.row c.requires.rows c.requires.within refl refl

pub returns-clause-peers : goal.returns-clause-peers
returns-clause-peers c = kept_part (λ l. l.peer) c.args.links.now c.args.index c.index-links-index.result _ refl
