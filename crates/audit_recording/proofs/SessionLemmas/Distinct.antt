-- Each set of fragments waits under a key of its own: by how many bytes all are counted for, none hides behind another.
use Rattle.std.proofs.Common.{◌≡◌, ◌≤◌, ◌+◌, ◌∷◌, ℕ, true, false, Bool, cond, inl, inr, [], Option, Some, None, option_map, unwrap_or, sum_by, refl, sym, ap, subst, ◌∙◌, arith}
use Rattle.std.proofs.lemmas.Bool.{cases_Bool}
use Rattle.std.proofs.lemmas.List.Sums.{sum_by-cons}
use Rattle.std.proofs.lemmas.Map.Entries.{sum_by-remove_entry}
use Rattle.std.specs.Map.{remove_entry, values_of}
use Rattle.net_udp.specs.Fragments.{CountsAt, SetState, Sets, room_of, room_of_all, room_under, same_key, set_at}
use Rattle.net_udp.specs.declared.fragments.key.Key.{Key}
use Rattle.net_udp.specs.Recording.Brought.{OthersStay}
use Rattle.net_udp.proofs.RecordingLemmas.Keys.{same_back, same_itself, same_on, same_set_at}

-- no two sets wait under one key
abbrev pub AreDistinct : Sets → Type 0
AreDistinct [] = Unit {0}
AreDistinct (x ∷ xs) = (set_at x.0 xs ≡ None) × AreDistinct xs

-- each set that waits there waits here
abbrev pub Include : Sets → Sets → Type 0
Include some others = (key : Key) (s : SetState) → set_at key some ≡ Some s → set_at key others ≡ Some s

abbrev pub total : (SetState → ℕ) → Sets → ℕ
total f sets = sum_by f (values_of sets)

abbrev pub under : (SetState → ℕ) → Option SetState → ℕ
under f o = unwrap_or (option_map f o) 0

-- those that are left without the first of a key
abbrev pub without : Key → Sets → Sets
without key sets = remove_entry (same_key key) sets

some_set : (o : Option SetState) (s t : SetState) → o ≡ Some s → o ≡ Some t → s ≡ t
some_set o s t e f = let both : Some s ≡ Some t = sym e ∙ f in cc

no_set : (o : Option SetState) (s : SetState) → o ≡ None → o ≡ Some s → ⊥
no_set o s e f = let both : None ≡ Some s = sym e ∙ f in cc

not_same : (b : Bool) → b ≡ true → b ≡ false → ⊥
not_same b e f = let both : true ≡ false = sym e ∙ f in cc

turned : (key k : Key) → same_key key k ≡ false → same_key k key ≡ false
turned key k other = elim (cases_Bool (same_key k key)) [ inl back ↦ absurd (not_same (same_key key k) (same_back k key back) other) | inr is ↦ is ]

-- what waits under another key stays
other_by : (key k : Key) (x : Key × SetState) (xs : Sets) (b : Bool) → same_key key k ≡ false → same_key key x.0 ≡ b → set_at k (without key xs) ≡ set_at k xs
    → set_at k (cond b xs (x ∷ without key xs)) ≡ cond (same_key k x.0) (Some x.1) (set_at k xs)
other_by key k x xs true other same more = elim (cases_Bool (same_key k x.0)) [
  | inl here ↦ absurd (not_same (same_key key k) (same_on x.0 key k (same_back key x.0 same) (same_back k x.0 here)) other)
  | inr there ↦ sym (ap (λ (b : Bool). cond b (Some x.1) (set_at k xs)) there)
]
other_by key k x xs false other differs more = ap (λ (o : Option SetState). cond (same_key k x.0) (Some x.1) o) more

other_at : (key k : Key) (sets : Sets) → same_key key k ≡ false → set_at k (without key sets) ≡ set_at k sets
other_at key k [] other = refl
other_at key k (x ∷ xs) other = other_by key k x xs (same_key key x.0) other refl (other_at key k xs other)

-- what is left has no more of it
left_by : (key : Key) (x : Key × SetState) (xs : Sets) (b : Bool) → AreDistinct (x ∷ xs) → same_key key x.0 ≡ b → AreDistinct (without key xs) × (set_at key (without key xs) ≡ None)
    → AreDistinct (cond b xs (x ∷ without key xs)) × (set_at key (cond b xs (x ∷ without key xs)) ≡ None)
left_by key x xs true are same more = (are.1, same_set_at key x.0 xs same ∙ are.0)
left_by key x xs false are differs more = (
  (other_at key x.0 xs differs ∙ are.0, more.0),
  ap (λ (b : Bool). cond b (Some x.1) (set_at key (without key xs))) differs ∙ more.1,
)

distinct_left : (key : Key) (sets : Sets) → AreDistinct sets → AreDistinct (without key sets) × (set_at key (without key sets) ≡ None)
distinct_left key [] are = (tt, refl)
distinct_left key (x ∷ xs) are = left_by key x xs (same_key key x.0) are refl (distinct_left key xs are.1)

-- and where that has none, all had one
again_by : (key : Key) (x : Key × SetState) (xs : Sets) (b : Bool) → same_key key x.0 ≡ b → (AreDistinct (without key xs) → set_at key (without key xs) ≡ None → AreDistinct xs)
    → AreDistinct (cond b xs (x ∷ without key xs)) → set_at key (cond b xs (x ∷ without key xs)) ≡ None → AreDistinct (x ∷ xs)
again_by key x xs true same more left gone = (sym (same_set_at key x.0 xs same) ∙ gone, left)
again_by key x xs false differs more left gone = (
  sym (other_at key x.0 xs differs) ∙ left.0,
  more left.1 (sym (ap (λ (b : Bool). cond b (Some x.1) (set_at key (without key xs))) differs) ∙ gone),
)

distinct_again : (key : Key) (sets : Sets) → AreDistinct (without key sets) → set_at key (without key sets) ≡ None → AreDistinct sets
distinct_again key [] left gone = tt
distinct_again key (x ∷ xs) left gone = again_by key x xs (same_key key x.0) refl (distinct_again key xs) left gone

-- ---- those that others include

module _ (x : Key × SetState) (xs others : Sets) (none : set_at x.0 xs ≡ None) (within : Include (x ∷ xs) others) where
  first_at : set_at x.0 others ≡ Some x.1
  first_at = within x.0 x.1 (ap (λ (b : Bool). cond b (Some x.1) (set_at x.0 xs)) (same_itself x.0))

  rest_within : Include xs (without x.0 others)
  rest_within key s e = elim (cases_Bool (same_key x.0 key)) [
    | inl same ↦ absurd (no_set (set_at key xs) s (sym (same_set_at x.0 key xs same) ∙ none) e)
    | inr other ↦ other_at x.0 key others other ∙ within key s (ap (λ (b : Bool). cond b (Some x.1) (set_at key xs)) (turned x.0 key other) ∙ e)
  ]

  first_counted : (f : SetState → ℕ) → total f (without x.0 others) + f x.1 ≡ total f others
  first_counted f = ap (λ (o : Option SetState). total f (without x.0 others) + under f o) (sym first_at) ∙ sum_by-remove_entry f (same_key x.0) others

included : (f : SetState → ℕ) (some others : Sets) → AreDistinct some → Include some others → total f some ≤ total f others
included f [] others are within = omega arith
included f (x ∷ xs) others are within =
    let rest = included f xs (without x.0 others) are.1 (rest_within x xs others are.0 within) in
    omega (arith, rest, first_counted x xs others are.0 within f, sum_by-cons f x.1 (values_of xs))

nothing_counted : (sets : Sets) → room_of_all sets ≤ 0 → sets ≡ []
nothing_counted [] none = refl
nothing_counted (x ∷ xs) none = absurd (omega (arith, none, sum_by-cons room_of x.1 (values_of xs)))

-- where those that include them are counted for no more, they are no more
module _ (x : Key × SetState) (xs others : Sets) (none : set_at x.0 xs ≡ None) (within : Include (x ∷ xs) others) (left : AreDistinct (without x.0 others)) (back : Include (without x.0 others) xs) where
  gone_by : (o : Option SetState) → set_at x.0 (without x.0 others) ≡ o → o ≡ None
  gone_by None e = refl
  gone_by (Some s) e = absurd (no_set (set_at x.0 xs) s none (back x.0 s e))

  others_distinct : AreDistinct others
  others_distinct = distinct_again x.0 others left (gone_by (set_at x.0 (without x.0 others)) refl)

  others_within : Include others (x ∷ xs)
  others_within key s e = elim (cases_Bool (same_key key x.0)) [
    | inl same ↦
        let is = some_set (set_at x.0 others) x.1 s (first_at x xs others none within) (sym (same_set_at key x.0 others same) ∙ e) in
        ap (λ (b : Bool). cond b (Some x.1) (set_at key xs)) same ∙ ap (λ (t : SetState). Some t) is
    | inr other ↦ ap (λ (b : Bool). cond b (Some x.1) (set_at key xs)) other ∙ back key s (other_at x.0 key others (turned key x.0 other) ∙ e)
  ]

no_more : (some others : Sets) → AreDistinct some → Include some others → room_of_all others ≤ room_of_all some → AreDistinct others × Include others some
no_more [] others are within few = subst (λ (o : Sets). AreDistinct o × Include o []) (sym (nothing_counted others few)) (tt, λ key s e. e)
no_more (x ∷ xs) others are within few =
    let fewer : room_of_all (without x.0 others) ≤ room_of_all xs = omega (arith, few, first_counted x xs others are.0 within room_of, sum_by-cons room_of x.1 (values_of xs)) in
    let rest = no_more xs (without x.0 others) are.1 (rest_within x xs others are.0 within) fewer in
    (others_distinct x xs others are.0 within rest.0 rest.1, others_within x xs others are.0 within rest.0 rest.1)

-- ---- what waits under one key has changed

room_is : (o : Option SetState) → under room_of o ≡ room_under o
room_is None = refl
room_is (Some s) = refl

module _ (key : Key) (old new : Sets) (are : AreDistinct old) (stay : OthersStay key old new) (counted : CountsAt key old new) where
  left : AreDistinct (without key old) × (set_at key (without key old) ≡ None)
  left = distinct_left key old are

  left_within : Include (without key old) (without key new)
  left_within k s e = elim (cases_Bool (same_key key k)) [
    | inl same ↦ absurd (no_set (set_at k (without key old)) s (sym (same_set_at key k (without key old) same) ∙ left.1) e)
    | inr other ↦ other_at key k new other ∙ stay k other ∙ sym (other_at key k old other) ∙ e
  ]

  as_many : room_of_all (without key new) ≤ room_of_all (without key old)
  as_many = omega (arith, counted, sum_by-remove_entry room_of (same_key key) old, sum_by-remove_entry room_of (same_key key) new, room_is (set_at key old), room_is (set_at key new))

  no_others : AreDistinct (without key new) × Include (without key new) (without key old)
  no_others = no_more (without key old) (without key new) left.0 left_within as_many

  none_left : (o : Option SetState) → set_at key (without key new) ≡ o → o ≡ None
  none_left None e = refl
  none_left (Some s) e = absurd (no_set (set_at key (without key old)) s left.1 (no_others.1 key s e))

  pub changed_distinct : AreDistinct new
  changed_distinct = distinct_again key new no_others.0 (none_left (set_at key (without key new)) refl)

  pub changed_total : (f : SetState → ℕ) → total f new + under f (set_at key old) ≡ total f old + under f (set_at key new)
  changed_total f =
      let up = included f (without key old) (without key new) left.0 left_within in
      let down = included f (without key new) (without key old) no_others.0 no_others.1 in
      omega (arith, up, down, sum_by-remove_entry f (same_key key) old, sum_by-remove_entry f (same_key key) new)
