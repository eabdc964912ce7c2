use Rattle.std.proofs.Common.{◌≡◌, ◌∙◌, ◌||◌, false, ap, sym}
use Rattle.tftp_ends.specs.{is_noted, peers_of}
use Rattle.tftp_ends.proofs.NotedPeers.{noted_by_order}
use Rattle.tftp_ends.proofs.RowLemmas.{noted_in_two}
use Rattle.tftp_ends.proofs.strays.Strays.have.Goals as goal

pub returns-else-is_linked : goal.returns-else-is_linked
returns-else-is_linked c =
    let ps = peers_of c.self.inside.links.items in
    let os = c.self.inside.others.keys in
    let peer = c.args.peer in
    let none : is_noted peer ps ≡ false = ap (λ l. is_noted peer (peers_of l)) (sym c.deref-2.ensures.value) ∙ sym c.is_linked.ensures ∙ c.if-is_linked.false in
    c.contains.ensures ∙ noted_by_order peer os
    ∙ sym (ap (is_noted peer) (sym c.self.view_is) ∙ noted_in_two peer ps os ∙ ap (λ b. b || is_noted peer os) none)
