-- A name is searched for among entries in the order of their names.
use Rattle.std.proofs.Common.{inl, inr, ◌≡◌, ◌≢◌, ℕ, zero, suc, ◌+◌, ◌<◌, Bool, true, false, cond, T, List, [], ◌∷◌, length, get_or, Some, None, refl, sym, ap, subst, ◌∙◌, true≢false, arith, ◌&&◌}
use Rattle.std.specs.Ordering.{nat_cmp, is_lt, ordering_reverse, ordering_index}
use Rattle.std.specs.Cmp.{tied_itself}
use Rattle.std.specs.Cmp.Lexicographic.{slice_cmp, nat_list_cmp_total}
use Rattle.std.specs.List.Sorted.{IsSortedBy, IsNonDecreasingBy, IsPartitionPoint}
use Rattle.std.specs.declared.cmp.Ordering.{Ordering}
use Rattle.std.specs.declared.cmp.Ordering.TheVariants.{Less, Equal, Greater}
use Rattle.std.specs.FinMap.{find, is_sorted, nat_cmp-IsAntisymmetric, slice_cmp-IsAntisymmetric}
use Rattle.std.specs.FinMap.Entries.{below_all}
use Rattle.std.proofs.lemmas.Bool.{cases_lt}
use Rattle.std.proofs.lemmas.List.Sorted.{searchable_from_sorted}
use Rattle.tftp_packet.specs.{lower, shown, shown_entries, AreLower, AreInOrder, Entry}
use Rattle.tftp_packet.proofs.Values.{bytes_eq_no}
use Rattle.tftp_packet.proofs.Maps.{bytes_eq_yes, ties}

and_left : (a b : Bool) → T (a && b) → T a
and_left true b h = tt
and_left false b h = absurd h

and_right : (a b : Bool) → T (a && b) → T b
and_right true b h = h
and_right false b h = absurd h

is_true : (b : Bool) → T b → b ≡ true
is_true true h = refl
is_true false h = absurd h

-- ---- order
flipped : (o p : Ordering) → p ≡ ordering_reverse o → is_lt o ≡ true → is_lt p ≡ false
flipped Less p e lt = ap is_lt e
flipped _ p e lt = absurd (true≢false (sym lt))

below_each : (k : List ℕ) (entries : List Entry) (i : ℕ) (d : Entry) → T (below_all (slice_cmp nat_cmp) k (shown_entries entries)) → i < length entries → is_lt (slice_cmp nat_cmp k (get_or entries i d).name) ≡ true
below_each k [] i d h low = absurd (omega arith)
below_each k (x ∷ entries) zero d h low = is_true _ (and_left _ _ h)
below_each k (x ∷ entries) (suc i) d h low = below_each k entries i d (and_right (is_lt (slice_cmp nat_cmp k x.name)) _ h) (omega arith)

lower_each : (entries : List Entry) (i : ℕ) (d : Entry) → AreLower (shown_entries entries) → i < length entries → lower (get_or entries i d).name ≡ (get_or entries i d).name
lower_each [] i d all h = absurd (omega arith)
lower_each (x ∷ entries) zero d all h = all.0
lower_each (x ∷ entries) (suc i) d all h = lower_each entries i d all.1 (omega arith)

abbrev key : Entry → List ℕ
key entry = lower entry.name

in_order : (entries : List Entry) → T (is_sorted (slice_cmp nat_cmp) (shown_entries entries)) → AreLower (shown_entries entries) → IsSortedBy (λ x y. is_lt (slice_cmp nat_cmp (key x) (key y))) entries
in_order [] sorted low k d a b = absurd (omega arith)
in_order (x ∷ []) sorted low k d a b = absurd (omega arith)
in_order (x ∷ y ∷ entries) sorted low zero d a b =
    flipped (slice_cmp nat_cmp (key x) (key y)) (slice_cmp nat_cmp (key y) (key x)) (nat_list_cmp_total.antisymm (key y) (key x))
    ((λ i. is_lt (slice_cmp nat_cmp (low.0 i) (low.1.0 i))) ∙ below_each x.name (y ∷ entries) 0 d (and_left _ _ sorted) (omega arith))
in_order (x ∷ y ∷ entries) sorted low (suc k) d a b =
    subst (λ n. is_lt (slice_cmp nat_cmp (key (get_or (x ∷ y ∷ entries) n d)) (key (get_or (y ∷ entries) k d))) ≡ false) {x = suc (k + 1)} {y = suc k + 1} (omega arith)
    (in_order (y ∷ entries) (and_right (below_all (slice_cmp nat_cmp) x.name (shown_entries (y ∷ entries))) _ sorted) low.1 k d (omega arith) (omega arith))

-- ---- the entry of a name
find_at : (entries : List Entry) (i : ℕ) (name : List ℕ) (d : Entry) → T (is_sorted (slice_cmp nat_cmp) (shown_entries entries)) → i < length entries → (get_or entries i d).name ≡ name
    → Some (shown (get_or entries i d).value) ≡ find (slice_cmp nat_cmp) name (shown_entries entries)
find_at [] i name d sorted h is = absurd (omega arith)
find_at (x ∷ entries) zero name d sorted h is =
    sym (ap (λ b. cond b (Some (shown x.value)) (find (slice_cmp nat_cmp) name (shown_entries entries))) (ties name x.name ∙ bytes_eq_yes x.name name is))
find_at (x ∷ entries) (suc i) name d sorted h is =
    let under = below_each x.name entries i d (and_left _ _ sorted) (omega arith) in
    let other : x.name ≢ name = λ same. true≢false (sym under ∙ ap (λ n. is_lt (slice_cmp nat_cmp x.name n)) (is ∙ sym same) ∙ ap is_lt (tied_itself nat_list_cmp_total x.name)) in
    find_at entries i name d (and_right (below_all (slice_cmp nat_cmp) x.name (shown_entries entries)) _ sorted) (omega arith) is
    ∙ sym (ap (λ b. cond b (Some (shown x.value)) (find (slice_cmp nat_cmp) name (shown_entries entries))) (ties name x.name ∙ bytes_eq_no x.name name other))

find_none : (entries : List Entry) (name : List ℕ) → ((k : ℕ) (d : Entry) → k < length entries → (get_or entries k d).name ≢ name) → None ≡ find (slice_cmp nat_cmp) name (shown_entries entries)
find_none [] name none = refl
find_none (x ∷ entries) name none =
    find_none entries name (λ k d h. none (suc k) d (omega arith))
    ∙ sym (ap (λ b. cond b (Some (shown x.value)) (find (slice_cmp nat_cmp) name (shown_entries entries))) (ties name x.name ∙ bytes_eq_no x.name name (none 0 x (omega arith))))

-- ---- what a binary search tells
module _ (entries : List Entry) (name : List ℕ) (ordered : AreInOrder (shown_entries entries)) where
  abbrev compared : Entry → Ordering
  compared entry = slice_cmp nat_cmp (lower entry.name) name

  pub searched_here : (i : ℕ) (d : Entry) → i < length entries → compared (get_or entries i d) ≡ Equal → Some (shown (get_or entries i d).value) ≡ find (slice_cmp nat_cmp) name (shown_entries entries)
  searched_here i d h is =
      find_at entries i name d ordered.0 h (sym (lower_each entries i d ordered.1 h) ∙ slice_cmp-IsAntisymmetric nat_cmp-IsAntisymmetric (lower (get_or entries i d).name) name is)

  not_equal : (k : ℕ) (d : Entry) (o : Ordering) → k < length entries → compared (get_or entries k d) ≡ o → o ≢ Equal → (get_or entries k d).name ≢ name
  not_equal k d o h is other same =
      other (sym is ∙ ap (λ n. slice_cmp nat_cmp n name) (lower_each entries k d ordered.1 h ∙ same) ∙ tied_itself nat_list_cmp_total name)

  pub searched_none : (i : ℕ) → (IsNonDecreasingBy (λ y. ordering_index (compared y)) entries → IsPartitionPoint (λ y. compared y ≡ Less) (λ y. compared y ≡ Greater) entries i) → None ≡ find (slice_cmp nat_cmp) name (shown_entries entries)
  searched_none i point =
      let parts = point (searchable_from_sorted nat_list_cmp_total key entries name (in_order entries ordered.0 ordered.1)) in
      find_none entries name (λ k d h. elim (cases_lt k i) [
        | inl low ↦ not_equal k d Less h (parts.0 k d (omega arith) low) (λ e. let f : ⊥ = cc in f)
        | inr high ↦ not_equal k d Greater h (parts.1 k d high h) (λ e. let f : ⊥ = cc in f)
      ])
