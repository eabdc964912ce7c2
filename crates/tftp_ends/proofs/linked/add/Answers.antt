use Rattle.std.proofs.Common.{◌≡◌, ◌∙◌, [], ◌∷◌, ◌++◌, List, length, take, drop, sym, ap, subst, arith}
use Rattle.std.proofs.Math.Seq.{take-append_seam}
use Rattle.tftp_ends.specs.{AreLinked}
use Rattle.tftp_ends.specs.declared.linked.Linked.{Linked}
use Rattle.tftp_ends.proofs.RowLemmas.{pushed}
use Rattle.tftp_ends.proofs.linked.add.Goals as goal

pub link-requires-clause-linked : goal.link-requires-clause-linked
link-requires-clause-linked c =
    let rows = c.make_room.new.latest.items in
    let held : List Linked = c.make_room.new.links in
    let more : Linked = record { peer = c.args.peer; before = 0 } in
    let size : c.args.links.now.len ≡ length held = omega arith in
    let behind = drop (length held) c.args.links.now.items in
    let whole : take c.args.links.now.len (held ++ behind) ≡ held = ap (λ n. take n (held ++ behind)) size ∙ take-append_seam held behind in
    rw (c.deref_mut-2.ensures.value, c.deref_mut-3.ensures.value, c.in_ok-push.ensures.items, c.len-index.ensures)
    (subst (λ n. AreLinked rows (take c.args.links.now.len (held ++ behind) ++ more ∷ []) n) (sym size)
    (subst (λ l. AreLinked rows (l ++ more ∷ []) (length held)) (sym whole) (pushed rows held more c.make_room.ensures.linked.all)))
