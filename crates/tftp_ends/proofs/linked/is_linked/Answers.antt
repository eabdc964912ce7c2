use Rattle.std.proofs.Common.{◌≡◌, ◌+◌, ◌-◌, ◌<◌, ◌%◌, true, false, length, take, sym, ap, subst, ◌∙◌, arith, map}
use Rattle.std.proofs.Math.ListN.{get_or}
use Rattle.std.proofs.lemmas.List.{length-map, get_or-map, take_all}
use Rattle.tftp_packet.specs.Hosts.{same_peer}
use Rattle.tftp_ends.specs.{is_noted, IsLatest, mark_of, peers_of, rows_of}
use Rattle.tftp_ends.specs.declared.linked.Linked.{Linked}
use Rattle.tftp_ends.proofs.RowLemmas.{not_this, is_this, up_to_latest}
use Rattle.tftp_ends.proofs.linked.is_linked.Goals as goal

pub loop-at-init : goal.loop-at-init
loop-at-init c =
    let latest = c.args.latest.now in
    let links = c.args.links.now in
    let peer = c.args.peer.now in
    let count = length latest in
    let s = get_or latest c.row_of.result 0 in
    let last : IsLatest (rows_of count links) (c.args.mark % count) (length links) s =
    subst (λ r. IsLatest (rows_of count links) r (length links) s) c.row_of.ensures.value (c.requires.linked.all.rows c.row_of.result c.row_of.ensures.within) in
    let there : IsLatest (rows_of count links) (mark_of peer % count) (length links) s =
    subst (λ m. IsLatest (rows_of count links) (m % count) (length links) s) c.requires.mark last in
    let some : Linked = record { peer = peer; before = 0 } in
    let sized = length-map links (λ (l : Linked). l.peer) in
    record {
      low = last.low;
      there = last.there;
      left = ap (is_noted peer) (sym (take_all (length links) (peers_of links) (omega (arith, sized)))) ∙ up_to_latest peer links count some (length links) s (omega arith) there;
    }

pub returns-then-eq : goal.returns-then-eq
returns-then-eq c =
    let links = c.args.links.now in
    let peer = c.args.peer.now in
    let at = c.loop-at.at in
    let link = c.index-links-at.result in
    let low = c.loop-at.invariant.low in
    let some = c.loop-at-test.true in
    let same : same_peer peer (get_or links (at - 1) link).peer ≡ true = subst (λ l. same_peer peer l.peer ≡ true) c.index-links-at.is (sym c.eq.ensures ∙ c.if-eq.true) in
    let up : at - 1 + 1 ≡ at = omega (arith, some) in
    sym (c.loop-at.invariant.left ∙ ap (λ n. is_noted peer (take n (peers_of links))) (sym up) ∙ is_this peer links (length c.args.latest.now) (at - 1) link (omega (arith, some, low)) same)

pub loop-at-preserved : goal.loop-at-preserved
loop-at-preserved c =
    let latest = c.args.latest.now in
    let links = c.args.links.now in
    let peer = c.args.peer.now in
    let count = length latest in
    let at = c.loop-at.at in
    let link = c.index-links-at.result in
    let low = c.loop-at.invariant.low in
    let some = c.loop-at-test.true in
    let below : at - 1 < length links = omega (arith, some, low) in
    let apart : same_peer peer (get_or links (at - 1) link).peer ≡ false = subst (λ l. same_peer peer l.peer ≡ false) c.index-links-at.is (sym c.eq.ensures ∙ c.if-eq.false) in
    let up : at - 1 + 1 ≡ at = omega (arith, some) in
    let before : get_or (map (λ (l : Linked). l.before) links) (at - 1) 0 ≡ link.before =
    get_or-map (λ (l : Linked). l.before) links (at - 1) link 0 below ∙ ap (λ (l : Linked). l.before) (sym c.index-links-at.is) in
    let last : IsLatest (rows_of count links) (c.args.mark % count) (at - 1) link.before =
    subst (IsLatest (rows_of count links) (c.args.mark % count) (at - 1)) before
    (subst (λ r. IsLatest (rows_of count links) r (at - 1) (get_or (map (λ (l : Linked). l.before) links) (at - 1) 0)) (c.loop-at.invariant.there some) (c.requires.linked.all.befores (at - 1) below)) in
    let there : IsLatest (rows_of count links) (mark_of peer % count) (at - 1) link.before =
    subst (λ m. IsLatest (rows_of count links) (m % count) (at - 1) link.before) c.requires.mark last in
    let fewer = last.low in
    record {
      low = omega (arith, fewer, below);
      there = last.there;
      left = c.loop-at.invariant.left ∙ ap (λ n. is_noted peer (take n (peers_of links))) (sym up) ∙ not_this peer links count (at - 1) link below apart
          ∙ up_to_latest peer links count link (at - 1) link.before (omega (arith, below)) there;
    }
