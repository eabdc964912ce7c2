-- Entries in the order of their names are a map.
use Rattle.std.proofs.Common.{◌≡◌, inl, inr, ℕ, zero, suc, ◌+◌, ◌<◌, ◌≤◌, Bool, true, false, cond, T, List, [], ◌∷◌, ◌++◌, length, get_or, take, drop, Some, None, refl, sym, ap, subst, ◌∙◌, add-one, arith, option_map, map as each, insert}
use Rattle.std.specs.List.{AllByRecursion}
use Rattle.std.specs.Char.{to_ascii_lowercase}
use Rattle.std.specs.Ordering.{nat_cmp, is_lt, is_eq, ordering_reverse}
use Rattle.std.specs.Cmp.Lexicographic.{slice_cmp, nat_list_cmp_total}
use Rattle.std.specs.declared.cmp.Ordering.{Ordering}
use Rattle.std.specs.declared.cmp.Ordering.TheVariants.{Less, Equal, Greater}
use Rattle.std.specs.FinMap as map
use Rattle.std.specs.FinMap.{find, is_sorted, put, get-from_sorted, entries-from_sorted, len-entries, empty_of_len, entries-insert, same_entries_map, from_entries_push, nat_cmp-IsAntisymmetric, slice_cmp-IsAntisymmetric}
use Rattle.std.specs.FinMap.Entries.{is_sorted-put, by_order}
use Rattle.std.proofs.lemmas.Bool.{cases_lt, lt-ltb, le-ltb}
use Rattle.tftp_packet.specs.{OptionMap, OptionValue, lower, value_of, no_options, Pair, map_of, text_of, AreApart, SameName, Shown, shown_entry, shown_entries, AreLower, AreInOrder, place, Entry}
use Rattle.tftp_packet.proofs.Values.{bytes_eq_no}
use Rattle.tftp_packet.proofs.Maps.{text_in_map, find_text, entry_of}

-- ---- one entry after another
drop_at : {A B : Type 0} (f : A → B) (xs : List A) (i : ℕ) (x : A) → i < length xs → x ≡ get_or xs i x → drop i (each f xs) ≡ f x ∷ drop (suc i) (each f xs)
drop_at f [] i x h e = absurd (omega arith)
drop_at f (y ∷ xs) zero x h e = ap (λ z. f z ∷ each f xs) (sym e)
drop_at f (y ∷ xs) (suc i) x h e = drop_at f xs i x (omega arith) e

pub lower_at : (entries : List Entry) (i : ℕ) (x : Entry) → AreLower (shown_entries entries) → i < length entries → x ≡ get_or entries i x → lower x.name ≡ x.name
lower_at [] i x all h e = absurd (omega arith)
lower_at (y ∷ entries) zero x all h e = subst (λ z. lower z.name ≡ z.name) (sym e) all.0
lower_at (y ∷ entries) (suc i) x all h e = lower_at entries i x all.1 (omega arith) e

module _ (entries : List Entry) (i : ℕ) (x : Entry) (h : i < length entries) (e : x ≡ get_or entries i x) where
  here : drop i (shown_entries entries) ≡ shown_entry x ∷ drop (suc i) (shown_entries entries)
  here = drop_at shown_entry entries i x h e

  next : drop (suc i) (shown_entries entries) ≡ drop (i + 1) (shown_entries entries)
  next = ap (λ n. drop n (shown_entries entries)) (sym (add-one i))

  pub place_here : (key : List ℕ) → is_lt (slice_cmp nat_cmp x.name key) ≡ false → place key (drop i (shown_entries entries)) ≡ 0
  place_here key over = ap (place key) here ∙ ap (λ b. cond b (suc (place key (drop (suc i) (shown_entries entries)))) 0) over

  pub place_later : (key : List ℕ) → is_lt (slice_cmp nat_cmp x.name key) ≡ true → place key (drop i (shown_entries entries)) ≡ suc (place key (drop (i + 1) (shown_entries entries)))
  place_later key under = ap (place key) here ∙ ap (λ b. cond b (suc (place key (drop (suc i) (shown_entries entries)))) 0) under ∙ ap (λ d. suc (place key d)) next

-- ---- a new entry in its place
take_drop_shown : {A B : Type 0} (f : A → B) (xs : List A) (i : ℕ) (x : A) → each f (take i xs ++ x ∷ drop i xs) ≡ take i (each f xs) ++ f x ∷ drop i (each f xs)
take_drop_shown f [] zero x = refl
take_drop_shown f [] (suc i) x = refl
take_drop_shown f (y ∷ xs) zero x = refl
take_drop_shown f (y ∷ xs) (suc i) x = ap (λ t. f y ∷ t) (take_drop_shown f xs i x)

pub insert_shown : (entries : List Entry) (i : ℕ) (x : Entry) → shown_entries (insert entries i x) ≡ insert (shown_entries entries) i (shown_entry x)
insert_shown entries i x = take_drop_shown shown_entry entries i x

some_none : {A : Type 0} (x : A) → Some x ≡ None → ⊥
some_none x e = let f : ⊥ = cc in f

pub insert_place : (es : List Shown) (k : List ℕ) (v : OptionValue) → find (slice_cmp nat_cmp) k es ≡ None → insert es (place k es) (k, v) ≡ put (slice_cmp nat_cmp) k v es
insert_place [] k v none = refl
insert_place (e ∷ es) k v none = by (insert_place es k v) (slice_cmp nat_cmp e.0 k) refl
  where
    by : (find (slice_cmp nat_cmp) k es ≡ None → insert es (place k es) (k, v) ≡ put (slice_cmp nat_cmp) k v es) → (r : Ordering) → slice_cmp nat_cmp e.0 k ≡ r → insert (e ∷ es) (place k (e ∷ es)) (k, v) ≡ put (slice_cmp nat_cmp) k v (e ∷ es)
    by later Less is =
        let back = nat_list_cmp_total.antisymm k e.0 ∙ ap ordering_reverse is in
        let rest = sym (ap (λ r. cond (is_eq r) (Some e.1) (find (slice_cmp nat_cmp) k es)) back) ∙ none in
        ap (λ r. insert (e ∷ es) (cond (is_lt r) (suc (place k es)) 0) (k, v)) is ∙ ap (λ t. e ∷ t) (later rest)
        ∙ sym (ap (λ r. by_order r ((k, v) ∷ e ∷ es) ((e.0, v) ∷ es) (e ∷ put (slice_cmp nat_cmp) k v es)) back)
    by later Equal is =
        let back = nat_list_cmp_total.antisymm k e.0 ∙ ap ordering_reverse is in
        absurd (some_none e.1 (sym (ap (λ r. cond (is_eq r) (Some e.1) (find (slice_cmp nat_cmp) k es)) back) ∙ none))
    by later Greater is =
        let back = nat_list_cmp_total.antisymm k e.0 ∙ ap ordering_reverse is in
        ap (λ r. insert (e ∷ es) (cond (is_lt r) (suc (place k es)) 0) (k, v)) is
        ∙ sym (ap (λ r. by_order r ((k, v) ∷ e ∷ es) ((e.0, v) ∷ es) (e ∷ put (slice_cmp nat_cmp) k v es)) back)

lower_put : (k : List ℕ) (v : OptionValue) (es : List Shown) → lower k ≡ k → AreLower es → AreLower (put (slice_cmp nat_cmp) k v es)
lower_put k v [] low all = (low, tt)
lower_put k v (e ∷ es) low all = by (lower_put k v es low all.1) (slice_cmp nat_cmp k e.0)
  where
    by : AreLower (put (slice_cmp nat_cmp) k v es) → (r : Ordering) → AreLower (by_order r ((k, v) ∷ e ∷ es) ((e.0, v) ∷ es) (e ∷ put (slice_cmp nat_cmp) k v es))
    by later Less = (low, all)
    by later Equal = (all.0, all.1)
    by later Greater = (all.0, later)

-- ---- lower case
lower_byte : (c : ℕ) → to_ascii_lowercase (to_ascii_lowercase c) ≡ to_ascii_lowercase c
lower_byte c = elim (cases_lt c 65) [
  | inl small ↦ rw (lt-ltb c 65 small, lt-ltb c 65 small) refl
  | inr big ↦ elim (cases_lt c 91) [
    | inl upper ↦ rw (le-ltb c 65 big, lt-ltb c 91 upper, le-ltb (c + 32) 65 (omega arith), le-ltb (c + 32) 91 (omega arith)) refl
    | inr other ↦ rw (le-ltb c 65 big, le-ltb c 91 other, le-ltb c 65 big, le-ltb c 91 other) refl
  ]
]

pub lower_twice : (s : List ℕ) → lower (lower s) ≡ lower s
lower_twice [] = refl
lower_twice (c ∷ s) = λ i. lower_byte c i ∷ lower_twice s i

-- ---- the map of entries
pub sorted_len : (es : List Shown) → T (is_sorted (slice_cmp nat_cmp) es) → map.len (map.from_sorted {R = slice_cmp nat_cmp} es) ≡ length es
sorted_len es h = len-entries _ ∙ ap length (entries-from_sorted (slice_cmp nat_cmp) es h)

pub no_entries : map.from_sorted [] ≡ no_options
no_entries = empty_of_len _ (sorted_len [] tt)

apart_front : (front : List Pair) (pair : Pair) (rest : List Pair) → AreApart (front ++ pair ∷ rest) → text_of front (lower pair.0) ≡ None
apart_front [] pair rest apart = refl
apart_front (p ∷ front) pair rest apart =
    ap (λ b. cond b (Some p.1) (text_of front (lower pair.0))) (bytes_eq_no (lower p.0) (lower pair.0) (among front apart.0))
    ∙ apart_front front pair rest apart.1
  where
    among : (middle : List Pair) → AllByRecursion (λ later. SameName p later → ⊥) (middle ++ pair ∷ rest) → SameName p pair → ⊥
    among [] all = all.0
    among (q ∷ middle) all = among middle all.1

each_append : {A B : Type 0} (f : A → B) (xs ys : List A) → each f (xs ++ ys) ≡ each f xs ++ each f ys
each_append f [] ys = refl
each_append f (x ∷ xs) ys = ap (λ t. f x ∷ t) (each_append f xs ys)

-- the entries are in order, and say what the options do
abbrev pub Stands : List Shown → List Pair → Type 0
Stands es pairs = AreInOrder es × (map.from_sorted es ≡ map_of pairs)

pub stands_none : Stands [] []
stands_none = ((tt, tt), no_entries)

module _ (es : List Shown) (front : List Pair) (pair : Pair) (rest : List Pair) (stands : Stands es front) (apart : AreApart (front ++ pair ∷ rest)) where
  not_in_front : map.get (map_of front) (lower pair.0) ≡ None
  not_in_front = text_in_map front (lower pair.0) ∙ ap (option_map (value_of (lower pair.0))) (apart_front front pair rest apart)

  pub is_new : find (slice_cmp nat_cmp) (lower pair.0) es ≡ None
  is_new = sym (get-from_sorted (slice_cmp nat_cmp) es (lower pair.0) stands.0.0) ∙ ap (λ m. map.get m (lower pair.0)) stands.1 ∙ not_in_front

  pub stands_more : Stands (put (slice_cmp nat_cmp) (lower pair.0) (value_of (lower pair.0) pair.1) es) (front ++ pair ∷ [])
  stands_more =
      let k = lower pair.0 in
      let v = value_of (lower pair.0) pair.1 in
      let sorted = is_sorted-put (slice_cmp nat_cmp) nat_list_cmp_total k v es stands.0.0 in
      let entries = entries-from_sorted (slice_cmp nat_cmp) (put (slice_cmp nat_cmp) k v es) sorted
      ∙ sym (entries-insert nat_list_cmp_total (map.from_sorted es) k v ∙ ap (put (slice_cmp nat_cmp) k v) (entries-from_sorted (slice_cmp nat_cmp) es stands.0.0)) in
      let same = same_entries_map (map.from_sorted (put (slice_cmp nat_cmp) k v es)) (map.insert (map.from_sorted es) k v) entries in
      let pushed = from_entries_push nat_list_cmp_total (slice_cmp-IsAntisymmetric nat_cmp-IsAntisymmetric) (each entry_of front) k v
      (find_text front k ∙ ap (option_map (value_of k)) (apart_front front pair rest apart)) in
      ((sorted, lower_put k v es (lower_twice pair.0) stands.0.1), same ∙ ap (λ m. map.insert m k v) stands.1 ∙ sym pushed ∙ ap map.from_entries (sym (each_append entry_of front (pair ∷ []))))

length_shown : (entries : List Entry) → length (shown_entries entries) ≡ length entries
length_shown [] = refl
length_shown (e ∷ entries) = ap suc (length_shown entries)

place_le : (k : List ℕ) (es : List Shown) → place k es ≤ length es
place_le k [] = omega arith
place_le k (e ∷ es) = by (is_lt (slice_cmp nat_cmp e.0 k)) (place_le k es)
  where
    by : (b : Bool) → place k es ≤ length es → cond b (suc (place k es)) 0 ≤ suc (length es)
    by true h = omega arith
    by false h = omega arith

pub place_within : (k : List ℕ) (entries : List Entry) → place k (shown_entries entries) ≤ length entries
place_within k entries = omega (arith, place_le k (shown_entries entries), length_shown entries)

-- what owned options say of their entries
module _ (entries : List Entry) (ordered : AreInOrder (shown_entries entries)) (m : OptionMap) (is : map.from_sorted (shown_entries entries) ≡ m) where
  pub shown_len : map.len m ≡ length entries
  shown_len = ap map.len (sym is) ∙ sorted_len (shown_entries entries) ordered.0 ∙ length_shown entries

  pub shown_get : (key : List ℕ) → map.get m key ≡ find (slice_cmp nat_cmp) key (shown_entries entries)
  shown_get key = ap (λ n. map.get n key) (sym is) ∙ get-from_sorted (slice_cmp nat_cmp) (shown_entries entries) key ordered.0

  pub shown_all : map.entries m ≡ shown_entries entries
  shown_all = ap map.entries (sym is) ∙ entries-from_sorted (slice_cmp nat_cmp) (shown_entries entries) ordered.0
