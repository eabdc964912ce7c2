use Rattle.std.proofs.Common.{◌≡◌, ◌∙◌, ◌||◌, ◌++◌, true, false, ap, sym}
use Rattle.tftp_packet.specs.Hosts.{same_peer}
use Rattle.law_model.proofs.Results.{where_err}
use Rattle.tftp_ends.specs.{is_noted, peers_of}
use Rattle.tftp_ends.proofs.NotedPeers.{noted_by_order, noted_more}
use Rattle.tftp_ends.proofs.RowLemmas.{noted_again, noted_in_two, noted_in_tree, noted_linked}
use Rattle.tftp_ends.proofs.strays.Strays.note.Goals as goal

pub returns-then-is_linked-clause-ok : goal.returns-then-is_linked-clause-ok
returns-then-is_linked-clause-ok c other =
    let ps = peers_of c.self.inside.links.items in
    let os = c.self.inside.others.keys in
    let peer = c.args.peer in
    let whole : is_noted peer c.args.self.now ≡ (is_noted peer ps || is_noted peer os) = ap (is_noted peer) (sym c.self.view_is) ∙ noted_in_two peer ps os in
    let linked : is_noted peer ps ≡ true = ap (λ l. is_noted peer (peers_of l)) (sym c.deref-2.ensures.value) ∙ sym c.is_linked.ensures ∙ c.if-is_linked.true in
    noted_again peer other c.args.self.now (whole ∙ ap (λ b. b || is_noted peer os) linked)

pub returns-in_err-insert-clause-absent : goal.returns-in_err-insert-clause-absent
returns-in_err-insert-clause-absent c =
    let ps = peers_of c.self.inside.links.items in
    let os = c.self.inside.others.keys in
    let peer = c.args.peer in
    let whole : is_noted peer c.args.self.now ≡ (is_noted peer ps || is_noted peer os) = ap (is_noted peer) (sym c.self.view_is) ∙ noted_in_two peer ps os in
    let linked : is_noted peer ps ≡ false = ap (λ l. is_noted peer (peers_of l)) (sym c.deref-2.ensures.value) ∙ sym c.is_linked.ensures ∙ c.if-is_linked.false in
    where_err c.from_residual.result (whole ∙ ap (λ b. b || is_noted peer os) linked ∙ sym (noted_by_order peer os) ∙ c.in_err-insert.ensures.absent)

pub returns-then-contains-clause-ok : goal.returns-then-contains-clause-ok
returns-then-contains-clause-ok c other =
    let ps = peers_of c.self.inside.links.items in
    let os = c.self.inside.others.keys in
    let peer = c.args.peer in
    let whole : is_noted peer c.args.self.now ≡ (is_noted peer ps || is_noted peer os) = ap (is_noted peer) (sym c.self.view_is) ∙ noted_in_two peer ps os in
    let linked : is_noted peer ps ≡ false = ap (λ l. is_noted peer (peers_of l)) (sym c.deref-2.ensures.value) ∙ sym c.is_linked.ensures ∙ c.if-is_linked.false in
    noted_again peer other c.args.self.now (whole ∙ ap (λ b. b || is_noted peer os) linked ∙ sym (noted_by_order peer os) ∙ sym c.contains.ensures ∙ c.if-contains.true)

pub returns-in_err-add-clause-absent : goal.returns-in_err-add-clause-absent
returns-in_err-add-clause-absent c =
    let ps = peers_of c.self.inside.links.items in
    let os = c.self.inside.others.keys in
    let peer = c.args.peer in
    let whole : is_noted peer c.args.self.now ≡ (is_noted peer ps || is_noted peer os) = ap (is_noted peer) (sym c.self.view_is) ∙ noted_in_two peer ps os in
    let linked : is_noted peer ps ≡ false = ap (λ l. is_noted peer (peers_of l)) (sym c.deref-2.ensures.value) ∙ sym c.is_linked.ensures ∙ c.if-is_linked.false in
    where_err c.from_residual-in_err-add.result (whole ∙ ap (λ b. b || is_noted peer os) linked ∙ sym (noted_by_order peer os) ∙ sym c.contains.ensures ∙ c.if-contains.false)

pub returns-then-is_full-clause-ok : goal.returns-then-is_full-clause-ok
returns-then-is_full-clause-ok c other =
    let ps = peers_of c.self.inside.links.items in
    let old = c.self.inside.others.keys in
    let new = c.insert.new.self.keys in
    noted_in_tree c.args.peer other ps old new (noted_more c.args.peer other old new (c.in_ok-insert.ensures.updates.0 other))
    ∙ ap (λ s. same_peer c.args.peer other || is_noted other s) c.self.view_is

pub returns-clause-ok : goal.returns-clause-ok
returns-clause-ok c other =
    let ps = peers_of c.self.inside.links.items in
    let os = c.self.inside.others.keys in
    ap (λ l. is_noted other (l ++ os)) c.in_ok-add.ensures.ok ∙ noted_linked c.args.peer other ps os
    ∙ ap (λ s. same_peer c.args.peer other || is_noted other s) c.self.view_is
