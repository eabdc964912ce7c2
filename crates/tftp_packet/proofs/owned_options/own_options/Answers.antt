use Rattle.std.proofs.Common.{◌≡◌, ◌∷◌, ◌++◌, [], List, sym, ap, subst, ◌∙◌, append_assoc}
use Rattle.std.specs.Ordering.{nat_cmp}
use Rattle.std.specs.Cmp.Lexicographic.{slice_cmp}
use Rattle.std.specs.FinMap.{find, put}
use Rattle.tftp_packet.specs.{Pair, AreApart, Shown, shown_entries}
use Rattle.tftp_packet.proofs.OwnedMaps.{Stands, stands_none, is_new, stands_more}
use Rattle.tftp_packet.proofs.owned_options.own_options.Goals as goal

pub loop-name-init : goal.loop-name-init
loop-name-init c = ([], c.pairs-pairs.ensures.all, subst (λ items. Stands (shown_entries items) []) (sym c.new-entries.ensures.items) stands_none)

apart : (front pairs view : List Pair) (pair : Pair) (rest : List Pair) → front ++ pairs ≡ view → pairs ≡ pair ∷ rest → AreApart view → AreApart (front ++ pair ∷ rest)
apart front pairs view pair rest e f h = subst AreApart (sym e ∙ ap (λ p. front ++ p) f) h

pub insert_entry-requires : goal.insert_entry-requires
insert_entry-requires c =
    let so_far = c.loop-name.invariant in
    let es = shown_entries c.loop-name.entries.items in
    let pair : Pair = (c.in-Some.name.now, c.in-Some.text.now) in
    ap (λ (entry : Shown). find (slice_cmp nat_cmp) entry.0 es) c.in_ok-entry.ensures
    ∙ is_new es so_far.0 pair c.next.new.self so_far.2 (apart so_far.0 c.loop-name.pairs c.args.view.now pair c.next.new.self so_far.1 c.in-Some.ensures.steps (subst AreApart c.pairs-pairs.ensures.all c.pairs-pairs.ensures.options.2))

pub loop-name-preserved : goal.loop-name-preserved
loop-name-preserved c =
    let so_far = c.loop-name.invariant in
    let es = shown_entries c.loop-name.entries.items in
    let pair : Pair = (c.in-Some.name.now, c.in-Some.text.now) in
    let put_in = c.in_ok-insert_entry.ensures ∙ ap (λ (entry : Shown). put (slice_cmp nat_cmp) entry.0 entry.1 es) c.in_ok-entry.ensures in (
      so_far.0 ++ pair ∷ [],
      append_assoc so_far.0 (pair ∷ []) c.next.new.self ∙ ap (λ p. so_far.0 ++ p) (sym c.in-Some.ensures.steps) ∙ so_far.1,
      subst (λ x. Stands x (so_far.0 ++ pair ∷ [])) (sym put_in)
          (stands_more es so_far.0 pair c.next.new.self so_far.2 (apart so_far.0 c.loop-name.pairs c.args.view.now pair c.next.new.self so_far.1 c.in-Some.ensures.steps (subst AreApart c.pairs-pairs.ensures.all c.pairs-pairs.ensures.options.2))),
    )
