-- Each frame is accounted for once: what a frame does to those that wait, in three stages, and then whole histories.
use Rattle.std.proofs.Common.{◌≡◌, ◌≢◌, ℕ, ◌+◌, ◌≤◌, Bool, true, ◌⊎◌, inl, inr, List, [], ◌∷◌, ◌++◌, length, Option, Some, None, refl, sym, ap, ◌∙◌, subst, arith}
use Rattle.std.proofs.lemmas.Bool.{cases_lt, cases_Bool}
use Rattle.net_udp.specs.Fragments.{same_key, Arrival, SetState, PutEnds, Sets, frames_of, is_long, set_at}
use Rattle.net_udp.specs.declared.fragments.outcome.Outcome.{Outcome}
use Rattle.net_udp.specs.declared.fragments.outcome.Outcome.TheVariants.{Waits, Apart}
use Rattle.net_udp.specs.Fragments.Whole.{Part}
use Rattle.net_udp.specs.declared.fragments.key.Key.{Key}
use Rattle.net_udp.specs.declared.fragments.outcome.Outcome.TheVariants.{Whole}
use Rattle.net_udp.proofs.FragmentsLemmas.Holding.{not_both}
use Rattle.net_pcap.specs.{FrameParts}
use Rattle.net_udp.specs.Recording.{IsIn, IsSettled, IsTold, IsWaiting, NoneTwice, ToldOneWay, WaitsAt, BroughtState, LetsGoOld, MakesRoom, Takes, TakesPart, nothing_brought, sharers, IsHistory, Step, waiting, is_copy}
use Rattle.net_udp.proofs.RecordingLemmas.Keys.{same_on, same_set_at}

in_left : (n : ℕ) (xs ys : List ℕ) → IsIn n xs → IsIn n (xs ++ ys)
in_left n [] ys h = absurd h
in_left n (x ∷ xs) ys (inl e) = inl e
in_left n (x ∷ xs) ys (inr h) = inr (in_left n xs ys h)

in_last : (n : ℕ) (xs : List ℕ) → IsIn n (xs ++ n ∷ [])
in_last n [] = inl refl
in_last n (x ∷ xs) = inr (in_last n xs)

in_snoc : (n m : ℕ) (xs : List ℕ) → IsIn n (xs ++ m ∷ []) → (n ≡ m) ⊎ IsIn n xs
in_snoc n m [] (inl e) = inl (sym e)
in_snoc n m [] (inr h) = absurd h
in_snoc n m (x ∷ xs) (inl e) = inr (inl e)
in_snoc n m (x ∷ xs) (inr h) = elim (in_snoc n m xs h) [ inl e ↦ inl e | inr i ↦ inr (inr i) ]

in_same : (n : ℕ) (xs ys : List ℕ) → xs ≡ ys → IsIn n xs → IsIn n ys
in_same n xs ys e h = subst (IsIn n) e h

-- the same set waits under a key before and after
at_same : (n : ℕ) (a b : Option SetState) → a ≡ b → IsIn n (frames_of a) → IsIn n (frames_of b)
at_same n a b e h = subst (λ (o : Option SetState). IsIn n (frames_of o)) e h

-- each frame that waits does so under one key
abbrev pub One : Sets → Type 0
One sets = (n : ℕ) (k l : Key) → WaitsAt k n sets → WaitsAt l n sets → same_key k l ≡ true

-- ---- what is too old

module _ (key : Key) (time : Option ℕ) (old new : Sets) (gone : List ℕ) (h : LetsGoOld key time old new gone) where
  -- under the key all is gone, and told, or all stays
  pub old_at : (o : Option SetState) → set_at key old ≡ o → ((set_at key new ≡ None) × (gone ≡ frames_of o)) ⊎ ((set_at key new ≡ o) × (gone ≡ []))
  old_at None e = inr ((h.none e).0, (h.none e).1)
  old_at (Some s) e = elim (cases_Bool (is_long s.began time)) [
    | inl long ↦ inl (h.long s e long)
    | inr young ↦ inr (h.young s e young)
  ]

  old_or_stays : (k : Key) (n : ℕ) → WaitsAt k n old → IsIn n gone ⊎ WaitsAt k n new
  old_or_stays k n w = elim (cases_Bool (same_key key k)) [
    | inl same ↦
        let here : WaitsAt key n old = at_same n _ _ (sym (same_set_at key k old same)) w in
        elim (old_at (set_at key old) refl) [
          | inl away ↦ inl (in_same n _ _ (sym away.1) here)
          | inr stays ↦ inr (at_same n _ _ (same_set_at key k new same) (at_same n _ _ (sym stays.0) here))
        ]
    | inr other ↦ inr (at_same n _ _ (sym (h.others k other)) w)
  ]

  stayed_young : (k : Key) (n : ℕ) → WaitsAt k n new → WaitsAt k n old
  stayed_young k n w = elim (cases_Bool (same_key key k)) [
    | inl same ↦
        let here : WaitsAt key n new = at_same n _ _ (sym (same_set_at key k new same)) w in
        elim (old_at (set_at key old) refl) [
          | inl away ↦ absurd (at_same n _ _ away.0 here)
          | inr stays ↦ at_same n _ _ (same_set_at key k old same) (at_same n _ _ stays.0 here)
        ]
    | inr other ↦ at_same n _ _ (h.others k other) w
  ]

  gone_waited : (n : ℕ) → IsIn n gone → WaitsAt key n old
  gone_waited n i = elim (old_at (set_at key old) refl) [
    | inl away ↦ in_same n _ _ away.1 i
    | inr stays ↦ absurd (in_same n _ _ stays.1 i)
  ]

  gone_is_gone : (k : Key) (n : ℕ) → One old → IsIn n gone → WaitsAt k n new → ⊥
  gone_is_gone k n one i w =
      let same = one n key k (gone_waited n i) (stayed_young k n w) in
      let here : WaitsAt key n new = at_same n _ _ (sym (same_set_at key k new same)) w in
      elim (old_at (set_at key old) refl) [
        | inl away ↦ at_same n _ _ away.0 here
        | inr stays ↦ in_same n _ _ stays.1 i
      ]

-- ---- where there is no room

in_none : (n : ℕ) → IsWaiting n [] → ⊥
in_none n w = w.1

ousted_or_stays : (p : Part) (old new ousted : Sets) (k : Key) (n : ℕ) → MakesRoom p old new ousted → WaitsAt k n old → IsWaiting n ousted ⊎ WaitsAt k n new
ousted_or_stays p old new ousted k n (inl h) w = inr (subst (WaitsAt k n) (sym h.1) w)
ousted_or_stays p old new ousted k n (inr h) w = inl (k, subst (WaitsAt k n) (sym h.1) w)

stayed_roomy : (p : Part) (old new ousted : Sets) (k : Key) (n : ℕ) → MakesRoom p old new ousted → WaitsAt k n new → WaitsAt k n old
stayed_roomy p old new ousted k n (inl h) w = subst (WaitsAt k n) h.1 w
stayed_roomy p old new ousted k n (inr h) w = absurd (in_none n (k, subst (WaitsAt k n) h.2 w))

ousted_waited : (p : Part) (old new ousted : Sets) (n : ℕ) → MakesRoom p old new ousted → IsWaiting n ousted → IsWaiting n old
ousted_waited p old new ousted n (inl h) w = absurd (in_none n (subst (IsWaiting n) h.0 w))
ousted_waited p old new ousted n (inr h) w = subst (IsWaiting n) h.1 w

ousted_is_gone : (p : Part) (old new ousted : Sets) (n : ℕ) → MakesRoom p old new ousted → IsWaiting n ousted → IsWaiting n new → ⊥
ousted_is_gone p old new ousted n (inl h) w v = in_none n (subst (IsWaiting n) h.0 w)
ousted_is_gone p old new ousted n (inr h) w v = in_none n (subst (IsWaiting n) h.2 v)

-- ---- with the others of its packet

put_or_stays_at : (o m : Option SetState) (all : ℕ) (a : Arrival) (outcome : Outcome) (n : ℕ) → PutEnds o m all a outcome → IsIn n (frames_of o) → IsIn n (sharers (Some outcome)) ⊎ IsIn n (frames_of m)
put_or_stays_at o m all a Waits n ends i = inr (in_same n _ _ (sym ends.2) (in_left n _ _ i))
put_or_stays_at o m all a (Whole content frames) n ends i = inl (in_same n _ _ (sym ends.2) (in_left n _ _ i))
put_or_stays_at o m all a (Apart frames) n ends i = inl (in_same n _ _ (sym ends.1) i)
put_or_stays_at o m all a _ n ends i = inr (at_same n _ _ (sym ends.0) i)

stayed_put_at : (o m : Option SetState) (all : ℕ) (a : Arrival) (outcome : Outcome) (n : ℕ) → PutEnds o m all a outcome → IsIn n (frames_of m) → ((n ≡ a.frame) × (outcome ≡ Waits)) ⊎ IsIn n (frames_of o)
stayed_put_at o m all a Waits n ends i = elim (in_snoc n a.frame _ (in_same n _ _ ends.2 i)) [ inl e ↦ inl (e, refl) | inr j ↦ inr j ]
stayed_put_at o m all a (Whole content frames) n ends i = absurd (at_same n _ None ends.0 i)
stayed_put_at o m all a (Apart frames) n ends i = absurd (in_same n _ [] ends.3 i)
stayed_put_at o m all a _ n ends i = inr (at_same n _ _ ends.0 i)

sharers_at : (o m : Option SetState) (all : ℕ) (a : Arrival) (outcome : Outcome) (n : ℕ) → PutEnds o m all a outcome → IsIn n (sharers (Some outcome)) → (n ≡ a.frame) ⊎ IsIn n (frames_of o)
sharers_at o m all a (Whole content frames) n ends i = in_snoc n a.frame _ (in_same n _ _ ends.2 i)
sharers_at o m all a (Apart frames) n ends i = inr (in_same n _ _ ends.1 i)
sharers_at o m all a _ n ends i = absurd i

sharers_gone_at : (o m : Option SetState) (all : ℕ) (a : Arrival) (outcome : Outcome) (n : ℕ) → PutEnds o m all a outcome → IsIn n (sharers (Some outcome)) → IsIn n (frames_of m) → ⊥
sharers_gone_at o m all a (Whole content frames) n ends i j = at_same n _ None ends.0 j
sharers_gone_at o m all a (Apart frames) n ends i j = in_same n _ [] ends.3 j
sharers_gone_at o m all a _ n ends i j = i

own_at : (o m : Option SetState) (all : ℕ) (a : Arrival) (outcome : Outcome) → PutEnds o m all a outcome → (outcome ≢ Waits) ⊎ IsIn a.frame (frames_of m)
own_at o m all a Waits ends = inr (in_same a.frame _ _ (sym ends.2) (in_last a.frame _))
own_at o m all a _ ends = inl (λ e. cc)

pub some_is : (a b : Outcome) → Some a ≡ Some b → a ≡ b
some_is a b e = cc

-- ---- a fragment, in all three

module _ (key : Key) (a : Arrival) (old new : Sets) (b : BroughtState) (t : TakesPart key a old new b) where
  sharing : (n : ℕ) → IsIn n (sharers b.outcome) → IsIn n (sharers (Some t.outcome))
  sharing n i = subst (λ (o : Option Outcome). IsIn n (sharers o)) t.is i

  shared : (n : ℕ) → IsIn n (sharers (Some t.outcome)) → IsIn n (sharers b.outcome)
  shared n i = subst (λ (o : Option Outcome). IsIn n (sharers o)) (sym t.is) i

  before_roomy : (k : Key) (n : ℕ) → WaitsAt k n t.roomy → WaitsAt k n old
  before_roomy k n w = stayed_young key a.time old t.young b.old t.lets_go k n (stayed_roomy a.part t.young t.roomy b.ousted k n t.makes_room w)

  put_stayed : (k : Key) (n : ℕ) → WaitsAt k n new → ((n ≡ a.frame) × (same_key key k ≡ true) × (t.outcome ≡ Waits)) ⊎ WaitsAt k n t.roomy
  put_stayed k n w = elim (cases_Bool (same_key key k)) [
    | inl same ↦ elim (stayed_put_at _ _ _ a t.outcome n t.ends (at_same n _ _ (sym (same_set_at key k new same)) w)) [
      | inl own ↦ inl (own.0, same, own.1)
      | inr i ↦ inr (at_same n _ _ (same_set_at key k t.roomy same) i)
    ]
    | inr other ↦ inr (at_same n _ _ (t.others k other) w)
  ]

  part_stayed : (k : Key) (n : ℕ) → WaitsAt k n new → ((n ≡ a.frame) × (same_key key k ≡ true) × (t.outcome ≡ Waits)) ⊎ WaitsAt k n old
  part_stayed k n w = elim (put_stayed k n w) [ inl own ↦ inl own | inr r ↦ inr (before_roomy k n r) ]

  part_or_told : (k : Key) (n : ℕ) → WaitsAt k n old → IsTold n a.frame b ⊎ IsWaiting n new
  part_or_told k n w = elim (old_or_stays key a.time old t.young b.old t.lets_go k n w) [
    | inl g ↦ inl (inl g)
    | inr y ↦ elim (ousted_or_stays a.part t.young t.roomy b.ousted k n t.makes_room y) [
      | inl o ↦ inl (inr (inl o))
      | inr r ↦ elim (cases_Bool (same_key key k)) [
        | inl same ↦ elim (put_or_stays_at _ _ _ a t.outcome n t.ends (at_same n _ _ (sym (same_set_at key k t.roomy same)) r)) [
          | inl s ↦ inl (inr (inr (inl (shared n s))))
          | inr i ↦ inr (key, i)
        ]
        | inr other ↦ inr (k, at_same n _ _ (sym (t.others k other)) r)
      ]
    ]
  ]

  part_own : IsTold a.frame a.frame b ⊎ IsWaiting a.frame new
  part_own = elim (own_at _ _ _ a t.outcome t.ends) [
    | inl differs ↦ inl (inr (inr (inr (refl, λ e. differs (some_is t.outcome Waits (sym t.is ∙ e))))))
    | inr i ↦ inr (key, i)
  ]

  part_told_waited : (n : ℕ) → IsTold n a.frame b → (n ≡ a.frame) ⊎ IsWaiting n old
  part_told_waited n (inl g) = inr (key, gone_waited key a.time old t.young b.old t.lets_go n g)
  part_told_waited n (inr (inl o)) = let w = ousted_waited a.part t.young t.roomy b.ousted n t.makes_room o in inr (w.0, stayed_young key a.time old t.young b.old t.lets_go w.0 n w.1)
  part_told_waited n (inr (inr (inl s))) = elim (sharers_at _ _ _ a t.outcome n t.ends (sharing n s)) [ inl e ↦ inl e | inr i ↦ inr (key, before_roomy key n i) ]
  part_told_waited n (inr (inr (inr p))) = inl p.0

  module _ (one : One old) (fresh : IsWaiting a.frame old → ⊥) where
    not_own : (n : ℕ) (k : Key) → n ≡ a.frame → WaitsAt k n old → ⊥
    not_own n k e w = fresh (k, subst (λ (m : ℕ). WaitsAt k m old) e w)

    part_one : One new
    part_one n k l w v = elim (part_stayed k n w) [
      | inl p ↦ elim (part_stayed l n v) [ inl q ↦ same_on key k l p.1 q.1 | inr q ↦ absurd (not_own n l p.0 q) ]
      | inr p ↦ elim (part_stayed l n v) [ inl q ↦ absurd (not_own n k q.0 p) | inr q ↦ one n k l p q ]
    ]

    part_apart : (n : ℕ) (k : Key) → IsTold n a.frame b → WaitsAt k n new → ⊥
    part_apart n k (inl g) w = elim (put_stayed k n w) [
      | inl own ↦ not_own n key own.0 (gone_waited key a.time old t.young b.old t.lets_go n g)
      | inr r ↦ gone_is_gone key a.time old t.young b.old t.lets_go k n one g (stayed_roomy a.part t.young t.roomy b.ousted k n t.makes_room r)
    ]
    part_apart n k (inr (inl o)) w = elim (put_stayed k n w) [
      | inl own ↦ let v = ousted_waited a.part t.young t.roomy b.ousted n t.makes_room o in not_own n v.0 own.0 (stayed_young key a.time old t.young b.old t.lets_go v.0 n v.1)
      | inr r ↦ ousted_is_gone a.part t.young t.roomy b.ousted n t.makes_room o (k, r)
    ]
    part_apart n k (inr (inr (inl s))) w = elim (cases_Bool (same_key key k)) [
      | inl same ↦ sharers_gone_at _ _ _ a t.outcome n t.ends (sharing n s) (at_same n _ _ (sym (same_set_at key k new same)) w)
      | inr other ↦ elim (put_stayed k n w) [
        | inl own ↦ not_both (same_key key k) own.1 other
        | inr r ↦ elim (sharers_at _ _ _ a t.outcome n t.ends (sharing n s)) [
          | inl e ↦ not_own n k e (before_roomy k n r)
          | inr i ↦ not_both (same_key key k) (one n key k (before_roomy key n i) (before_roomy k n r)) other
        ]
      ]
    ]
    part_apart n k (inr (inr (inr p))) w = elim (put_stayed k n w) [
      | inl own ↦ p.1 (t.is ∙ ap (λ (o : Outcome). Some o) own.2)
      | inr r ↦ not_own n k p.0 (before_roomy k n r)
    ]

    old_not_ousted : (n : ℕ) → IsIn n b.old → IsWaiting n b.ousted → ⊥
    old_not_ousted n g o =
        let w = ousted_waited a.part t.young t.roomy b.ousted n t.makes_room o in
        gone_is_gone key a.time old t.young b.old t.lets_go w.0 n one g w.1

    shares_alone : (n : ℕ) → IsIn n (sharers b.outcome) → IsIn n b.old ⊎ IsWaiting n b.ousted → ⊥
    shares_alone n s (inl g) = elim (sharers_at _ _ _ a t.outcome n t.ends (sharing n s)) [
      | inl e ↦ not_own n key e (gone_waited key a.time old t.young b.old t.lets_go n g)
      | inr i ↦ gone_is_gone key a.time old t.young b.old t.lets_go key n one g (stayed_roomy a.part t.young t.roomy b.ousted key n t.makes_room i)
    ]
    shares_alone n s (inr o) = elim (sharers_at _ _ _ a t.outcome n t.ends (sharing n s)) [
      | inl e ↦ let w = ousted_waited a.part t.young t.roomy b.ousted n t.makes_room o in not_own n w.0 e (stayed_young key a.time old t.young b.old t.lets_go w.0 n w.1)
      | inr i ↦ ousted_is_gone a.part t.young t.roomy b.ousted n t.makes_room o (key, i)
    ]

-- ---- a frame

nothing_told : (n number : ℕ) (b : BroughtState) → b ≡ nothing_brought → IsTold n number b → n ≡ number
nothing_told n number b e told = elim (subst (IsTold n number) e told) [
  | inl g ↦ absurd g
  | inr (inl o) ↦ absurd (in_none n o)
  | inr (inr (inl s)) ↦ absurd s
  | inr (inr (inr p)) ↦ p.0
]

pub none_waits : (o : Outcome) → None ≡ Some o → ⊥
none_waits o e = cc

takes_or_told : (is : Bool) (old : Sets) (frame : FrameParts) (number : ℕ) (b : BroughtState) (new : Sets) (n : ℕ) → Takes is old frame number b new → IsWaiting n old → IsTold n number b ⊎ IsWaiting n new
takes_or_told is old frame number b new n (inl h) w = inr (subst (IsWaiting n) (sym h.2) w)
takes_or_told is old frame number b new n (inr h) w = part_or_told _ _ old new b h.3 w.0 n w.1

takes_own : (is : Bool) (old : Sets) (frame : FrameParts) (number : ℕ) (b : BroughtState) (new : Sets) → Takes is old frame number b new → IsTold number number b ⊎ IsWaiting number new
takes_own is old frame number b new (inl h) = inl (inr (inr (inr (refl, λ e. none_waits Waits (sym (ap (λ (x : BroughtState). x.outcome) h.1) ∙ e)))))
takes_own is old frame number b new (inr h) = part_own _ _ old new b h.3

takes_stayed : (is : Bool) (old : Sets) (frame : FrameParts) (number : ℕ) (b : BroughtState) (new : Sets) (n : ℕ) → Takes is old frame number b new → IsWaiting n new → (n ≡ number) ⊎ IsWaiting n old
takes_stayed is old frame number b new n (inl h) w = inr (subst (IsWaiting n) h.2 w)
takes_stayed is old frame number b new n (inr h) w = elim (part_stayed _ _ old new b h.3 w.0 n w.1) [ inl own ↦ inl own.0 | inr v ↦ inr (w.0, v) ]

takes_told : (is : Bool) (old : Sets) (frame : FrameParts) (number : ℕ) (b : BroughtState) (new : Sets) (n : ℕ) → Takes is old frame number b new → IsTold n number b → (n ≡ number) ⊎ IsWaiting n old
takes_told is old frame number b new n (inl h) told = inl (nothing_told n number b h.1 told)
takes_told is old frame number b new n (inr h) told = part_told_waited _ _ old new b h.3 n told

takes_one : (is : Bool) (old : Sets) (frame : FrameParts) (number : ℕ) (b : BroughtState) (new : Sets) → One old → (IsWaiting number old → ⊥) → Takes is old frame number b new → One new
takes_one is old frame number b new one fresh (inl h) = subst One (sym h.2) one
takes_one is old frame number b new one fresh (inr h) = part_one _ _ old new b h.3 one fresh

takes_apart : (is : Bool) (old : Sets) (frame : FrameParts) (number : ℕ) (b : BroughtState) (new : Sets) (n : ℕ) → One old → (IsWaiting number old → ⊥) → Takes is old frame number b new → IsTold n number b → IsWaiting n new → ⊥
takes_apart is old frame number b new n one fresh (inl h) told w = fresh (subst (λ (m : ℕ). IsWaiting m old) (nothing_told n number b h.1 told) (subst (IsWaiting n) h.2 w))
takes_apart is old frame number b new n one fresh (inr h) told w = part_apart _ _ old new b h.3 one fresh n w.0 told w.1

takes_one_way : (is : Bool) (old : Sets) (frame : FrameParts) (number : ℕ) (b : BroughtState) (new : Sets) (n : ℕ) → One old → (IsWaiting number old → ⊥) → Takes is old frame number b new → ToldOneWay n b
takes_one_way is old frame number b new n one fresh (inl h) = subst (ToldOneWay n) (sym h.1) (record { old = λ g o. g; shares = λ s told. s })
takes_one_way is old frame number b new n one fresh (inr h) = record { old = old_not_ousted _ _ old new b h.3 one fresh n; shares = shares_alone _ _ old new b h.3 one fresh n }

-- ---- all frames

pub record Sound (history : List Step) : Type 0 where
  pub waits : (n : ℕ) → IsWaiting n (waiting history) → (1 ≤ n) × (n ≤ length history)
  pub settled : (n : ℕ) → IsSettled n history → (1 ≤ n) × (n ≤ length history)
  pub one : One (waiting history)
  pub apart : (n : ℕ) → IsSettled n history → IsWaiting n (waiting history) → ⊥
  pub each : (n : ℕ) → 1 ≤ n → n ≤ length history → IsSettled n history ⊎ IsWaiting n (waiting history)
  pub twice : NoneTwice history

last_or_before : (n m : ℕ) → n ≤ m + 1 → (n ≡ m + 1) ⊎ (n ≤ m)
last_or_before n m h = elim (cases_lt m n) [ inl above ↦ inl (omega arith) | inr within ↦ inr within ]

pub sound : (history : List Step) → IsHistory history → Sound history
sound [] h = record {
  waits = λ n w. absurd (in_none n w);
  settled = λ n s. absurd s;
  one = λ n k l w v. absurd w;
  apart = λ n s w. s;
  each = λ n low high. absurd (omega (arith, low, high));
  twice = tt;
}
sound (step ∷ before) h =
    let old = waiting before in
    let number = length before + 1 in
    let s = sound before h.1 in
    let fresh : IsWaiting number old → ⊥ = λ w. absurd (omega (arith, (s.waits number w).1)) in
    let told_within : (n : ℕ) → IsTold n number step.brought → (1 ≤ n) × (n ≤ length before + 1) = λ n told.
    elim (takes_told (is_copy step.likeness) old step.frame number step.brought step.waits n h.0 told) [
      | inl e ↦ (omega (arith, e), omega (arith, e))
      | inr w ↦ ((s.waits n w).0, omega (arith, (s.waits n w).1))
    ] in
    record {
      waits = λ n w. elim (takes_stayed (is_copy step.likeness) old step.frame number step.brought step.waits n h.0 w) [
        | inl e ↦ (omega (arith, e), omega (arith, e))
        | inr v ↦ ((s.waits n v).0, omega (arith, (s.waits n v).1))
      ];
      settled = λ n i. elim i [
        | inl told ↦ ((told_within n told).0, omega (arith, (told_within n told).1))
        | inr j ↦ ((s.settled n j).0, omega (arith, (s.settled n j).1))
      ];
      one = takes_one (is_copy step.likeness) old step.frame number step.brought step.waits s.one fresh h.0;
      apart = λ n i w. elim i [
        | inl told ↦ takes_apart (is_copy step.likeness) old step.frame number step.brought step.waits n s.one fresh h.0 told w
        | inr j ↦ elim (takes_stayed (is_copy step.likeness) old step.frame number step.brought step.waits n h.0 w) [
          | inl e ↦ absurd (omega (arith, e, (s.settled n j).1))
          | inr v ↦ s.apart n j v
        ]
      ];
      each = λ n low high. elim (last_or_before n (length before) (omega (arith, high))) [
        | inl e ↦ elim (takes_own (is_copy step.likeness) old step.frame number step.brought step.waits h.0) [
          | inl told ↦ inl (inl (subst (λ (m : ℕ). IsTold m number step.brought) (sym e) told))
          | inr w ↦ inr (subst (λ (m : ℕ). IsWaiting m step.waits) (sym e) w)
        ]
        | inr within ↦ elim (s.each n low within) [
          | inl i ↦ inl (inr i)
          | inr w ↦ elim (takes_or_told (is_copy step.likeness) old step.frame number step.brought step.waits n h.0 w) [ inl told ↦ inl (inl told) | inr v ↦ inr v ]
        ]
      ];
      twice = (
        (λ n told i. elim (takes_told (is_copy step.likeness) old step.frame number step.brought step.waits n h.0 told) [
          | inl e ↦ absurd (omega (arith, e, (s.settled n i).1))
          | inr w ↦ s.apart n i w
        ]),
        s.twice,
      );
    }

pub within : (history : List Step) (n : ℕ) → IsHistory history → IsSettled n history ⊎ IsWaiting n (waiting history) → (1 ≤ n) × (n ≤ length history)
within history n h (inl i) = (sound history h).settled n i
within history n h (inr w) = (sound history h).waits n w

pub one_way : (before : List Step) (step : Step) (n : ℕ) → IsHistory (step ∷ before) → ToldOneWay n step.brought
one_way before step n h =
    let s = sound before h.1 in
    takes_one_way (is_copy step.likeness) (waiting before) step.frame (length before + 1) step.brought step.waits n s.one (λ w. absurd (omega (arith, (s.waits (length before + 1) w).1))) h.0
