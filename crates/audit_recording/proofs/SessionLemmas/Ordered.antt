-- The transfers of a recording in the order of their requests: their numbers rise, and are those of the trails that are kept.
use Rattle.std.proofs.Common.{arith, ◌≡◌, ◌<◌, ◌==◌, ◌||◌, ◌⊎◌, ◌+◌, ◌++◌, max, ℕ, Bool, true, false, true≢false, List, [], ◌∷◌, length, Option, Some, None, IsSome, is_some, inl, inr, refl, sym, ap, subst, ◌∙◌}
use Rattle.std.specs.BTreeMap.{BTreeMap, get, keys}
use Rattle.std.specs.List.{AllByRecursion, list_any, slice_get}
use Rattle.std.specs.Ordering.{is_eq, nat_cmp}
use Rattle.std.proofs.lemmas.Bool.{eqb-true, eq-eqb, ne_eqb, or_right}
use Rattle.std.proofs.lemmas.List.{append-nil, length-append}
use Rattle.std.proofs.lemmas.List.Folds.{list_any-append}
use Rattle.audit_flows.specs.Lines.{Placed, Recorded, clock, opens, transfer_of}
use Rattle.audit_flows.specs.{Opens, Place, Transfer}
use Rattle.audit_flows.specs.Transfers.{opened_it, placed}
use Rattle.audit_flows.proofs.LinesLemmas.Lines.{by_test}
use Rattle.audit_flows.proofs.TransfersLemmas.Numbers.{length_placed, opening_number}
use Rattle.audit_recording.specs.Audit.Audited.{placed_after}
use Rattle.audit_recording.specs.Blame.Frames.{Carried, datagrams_of, whole_of}
use Rattle.audit_recording.specs.Judges.{opened}
use Rattle.audit_recording.specs.Session.Texts.{opened_count, opened_numbers, opened_there, ordinal}
use Rattle.audit_recording.specs.Session.Trails.{AreTrailsKept, IsTrailKept}
use Rattle.audit_recording.specs.declared.blame.trail.Trail.{Trail}
use Rattle.audit_recording.specs.declared.judges.judging.Judging.{Judging}
use Rattle.audit_recording.proofs.JudgesLemmas.Keeping.{opened_elsewhere, opened_here, opens_at, same_number}
use Rattle.audit_recording.proofs.SessionLemmas.Rising.{Rises, all_longer, all_snoc, at_snoc, below_at, has, place_of_one, rises_none, rises_snoc, same_rising}
use Rattle.audit_recording.proofs.SessionLemmas.Texts.{at_place, counted_none, counted_one, ordinal_elsewhere, ordinal_here}

-- ---- a place opens a transfer, or none

opened_or_not : (place : Place) → ((x : Transfer) × (place ≡ Opens x)) ⊎ (opened_there place ≡ [])
opened_or_not (Opens x) = inl (x, refl)
opened_or_not _ = inr refl

opens_not : (d : Recorded) (now : ℕ) (place : Place) → opened_there place ≡ [] → opens (at_place d now place) ≡ false
opens_not d now (Opens x) is = absurd (cc)
opens_not d now _ is = refl

not_opened : (n : ℕ) (d : Recorded) (now : ℕ) (place : Place) → opened_there place ≡ [] → opened_it n (at_place d now place) ≡ false
not_opened n d now (Opens x) is = absurd (cc)
not_opened n d now _ is = refl

none_more : (p : Placed) (older : List Placed) → opened_there p.place ≡ [] → opened_numbers (p ∷ older) ≡ opened_numbers older
none_more p older none = ap (λ l. opened_numbers older ++ l) none ∙ append-nil (opened_numbers older)

one_more : (p : Placed) (older : List Placed) (x : Transfer) → p.place ≡ Opens x → opened_numbers (p ∷ older) ≡ opened_numbers older ++ x.number ∷ []
one_more p older x is = ap (λ q. opened_numbers older ++ opened_there q) is

-- its number is how many datagrams came before
number_there : (named : List ℕ) (recorded : List Recorded) (d : Recorded) (x : Transfer) → (placed_after named (placed named recorded) d).place ≡ Opens x → x.number ≡ length recorded
number_there named recorded d x is =
    opening_number named (placed named recorded) (max d.time (clock (placed named recorded))) d x is ∙ length_placed named recorded

or_none : (a : Bool) → (a || false) ≡ a
or_none true = refl
or_none false = refl

flipped : (m n : ℕ) (b : Bool) → (m == n) ≡ b → (n == m) ≡ b
flipped m n true is = eq-eqb n m (sym (eqb-true m n is))
flipped m n false off = ne_eqb n m (λ same. true≢false (sym (eq-eqb m n (sym same)) ∙ off))

-- ---- one datagram more

module _ (named : List ℕ) (recorded : List Recorded) (d : Recorded) where
  abbrev older : List Placed
  older = placed named recorded

  abbrev p : Placed
  p = placed_after named older d

  abbrev OpensOrNot : Type 0
  OpensOrNot = ((x : Transfer) × (p.place ≡ Opens x)) ⊎ (opened_there p.place ≡ [])

  -- their numbers are below
  below_step : AllByRecursion (λ y. y < length recorded) (opened_numbers older) → OpensOrNot → AllByRecursion (λ y. y < length (d ∷ recorded)) (opened_numbers (p ∷ older))
  below_step before (inr none) = subst (AllByRecursion (λ y. y < length (d ∷ recorded))) (sym (none_more p older none))
      (all_longer (length recorded) (length (d ∷ recorded)) (opened_numbers older) (omega arith) before)
  below_step before (inl one) =
      let number : one.0.number ≡ length recorded = number_there named recorded d one.0 one.1 in
      subst (AllByRecursion (λ y. y < length (d ∷ recorded))) (sym (one_more p older one.0 one.1))
      (all_snoc (λ y. y < length (d ∷ recorded)) (opened_numbers older) one.0.number
      (all_longer (length recorded) (length (d ∷ recorded)) (opened_numbers older) (omega arith) before) (omega arith))

  -- and rise
  rise_step : AllByRecursion (λ y. y < length recorded) (opened_numbers older) → Rises (opened_numbers older) → OpensOrNot → Rises (opened_numbers (p ∷ older))
  rise_step low before (inr none) = subst Rises (sym (none_more p older none)) before
  rise_step low before (inl one) =
      let number : one.0.number ≡ length recorded = number_there named recorded d one.0 one.1 in
      subst Rises (sym (one_more p older one.0 one.1))
      (rises_snoc (opened_numbers older) one.0.number before (all_longer (length recorded) one.0.number (opened_numbers older) (omega arith) low))

  -- and are those of the transfers that were opened
  has_last : (n : ℕ) (x : Transfer) (b : Bool) → p.place ≡ Opens x → (x.number == n) ≡ b → has n (opened_numbers (p ∷ older)) ≡ (has n (opened_numbers older) || b)
  has_last n x b is same =
      ap (has n) (one_more p older x is) ∙ list_any-append (λ k. n == k) (opened_numbers older) (x.number ∷ [])
      ∙ ap (λ c. has n (opened_numbers older) || c) (or_none (n == x.number) ∙ flipped x.number n b same)

  has_step : (n : ℕ) → has n (opened_numbers older) ≡ is_some (opened n older) → OpensOrNot → has n (opened_numbers (p ∷ older)) ≡ is_some (opened n (p ∷ older))
  has_step n before (inr none) = ap (has n) (none_more p older none) ∙ before ∙ sym (ap is_some (opened_elsewhere n p older (not_opened n p.datagram p.moment p.place none)))
  has_step n before (inl one) = by_test (one.0.number == n)
      (λ it. has_last n one.0 true one.1 it ∙ or_right (has n (opened_numbers older)) true refl
      ∙ sym (ap is_some (opened_here n p older (opens_at n p.datagram p.moment p.place one.0 one.1 ∙ it) ∙ ap transfer_of one.1)))
      (λ off. has_last n one.0 false one.1 off ∙ or_none (has n (opened_numbers older)) ∙ before
      ∙ sym (ap is_some (opened_elsewhere n p older (opens_at n p.datagram p.moment p.place one.0 one.1 ∙ off))))

  -- and stand in the order in which they were opened
  among : (k key : ℕ) (x : Transfer) → p.place ≡ Opens x → AllByRecursion (λ y. y < length recorded) (opened_numbers older) → opened_count older ≡ length (opened_numbers older)
      → (slice_get (opened_numbers older) k ≡ Some key → ordinal key older ≡ k + 1)
      → (slice_get (opened_numbers older) k ≡ Some key) ⊎ ((k ≡ length (opened_numbers older)) × (x.number ≡ key)) → ordinal key (p ∷ older) ≡ k + 1
  among k key x opens_it low count before (inl there) =
      let under : key < length recorded = below_at (length recorded) (opened_numbers older) k key low there in
      let number : x.number ≡ length recorded = number_there named recorded d x opens_it in
      ordinal_elsewhere key p older (opens_at key p.datagram p.moment p.place x opens_it ∙ ne_eqb x.number key (λ same. omega (arith, same))) ∙ before there
  among k key x opens_it low count before (inr last) =
      ordinal_here key p older (opens_at key p.datagram p.moment p.place x opens_it ∙ eq-eqb x.number key last.1)
      ∙ counted_one p.datagram p.moment p.place older (ap (λ q. opens (at_place p.datagram p.moment q)) opens_it) ∙ ap (λ j. j + 1) (count ∙ sym last.0)

  ordinal_step : (k key : ℕ) → AllByRecursion (λ y. y < length recorded) (opened_numbers older) → opened_count older ≡ length (opened_numbers older)
      → (slice_get (opened_numbers older) k ≡ Some key → ordinal key older ≡ k + 1)
      → slice_get (opened_numbers (p ∷ older)) k ≡ Some key → OpensOrNot → ordinal key (p ∷ older) ≡ k + 1
  ordinal_step k key low count before is (inr none) =
      ordinal_elsewhere key p older (not_opened key p.datagram p.moment p.place none) ∙ before (subst (λ l. slice_get l k ≡ Some key) (none_more p older none) is)
  ordinal_step k key low count before is (inl one) =
      among k key one.0 one.1 low count before (at_snoc (opened_numbers older) one.0.number k key (subst (λ l. slice_get l k ≡ Some key) (one_more p older one.0 one.1) is))

count_step : (p : Placed) (older : List Placed) → opened_count older ≡ length (opened_numbers older) → ((x : Transfer) × (p.place ≡ Opens x)) ⊎ (opened_there p.place ≡ [])
    → opened_count (p ∷ older) ≡ length (opened_numbers (p ∷ older))
count_step p older before (inr none) = counted_none p older (opens_not p.datagram p.moment p.place none) ∙ before ∙ ap length (sym (none_more p older none))
count_step p older before (inl one) =
    counted_one p.datagram p.moment p.place older (ap (λ q. opens (at_place p.datagram p.moment q)) one.1) ∙ ap (λ k. k + 1) before
    ∙ sym (ap length (one_more p older one.0 one.1) ∙ length-append (opened_numbers older) (one.0.number ∷ []))

-- ---- all of them

pub numbers_below : (named : List ℕ) (recorded : List Recorded) → AllByRecursion (λ y. y < length recorded) (opened_numbers (placed named recorded))
numbers_below named [] = tt
numbers_below named (d ∷ recorded) = below_step named recorded d (numbers_below named recorded) (opened_or_not (placed_after named (placed named recorded) d).place)

pub numbers_rise : (named : List ℕ) (recorded : List Recorded) → Rises (opened_numbers (placed named recorded))
numbers_rise named [] = rises_none
numbers_rise named (d ∷ recorded) =
    rise_step named recorded d (numbers_below named recorded) (numbers_rise named recorded) (opened_or_not (placed_after named (placed named recorded) d).place)

pub has_opened : (named : List ℕ) (recorded : List Recorded) (n : ℕ) → has n (opened_numbers (placed named recorded)) ≡ is_some (opened n (placed named recorded))
has_opened named [] n = refl
has_opened named (d ∷ recorded) n = has_step named recorded d n (has_opened named recorded n) (opened_or_not (placed_after named (placed named recorded) d).place)

pub count_is : (all : List Placed) → opened_count all ≡ length (opened_numbers all)
count_is [] = refl
count_is (p ∷ older) = count_step p older (count_is older) (opened_or_not p.place)

-- the number at a place is that of the so manieth
pub ordinal_at : (named : List ℕ) (recorded : List Recorded) (k key : ℕ) → slice_get (opened_numbers (placed named recorded)) k ≡ Some key → ordinal key (placed named recorded) ≡ k + 1
ordinal_at named [] k key is = absurd (cc)
ordinal_at named (d ∷ recorded) k key is =
    ordinal_step named recorded d k key (numbers_below named recorded) (count_is (placed named recorded)) (ordinal_at named recorded k key) is
    (opened_or_not (placed_after named (placed named recorded) d).place)

-- one that was opened has its place among them
pub opened_at : (named : List ℕ) (recorded : List Recorded) (n : ℕ) → IsSome (opened n (placed named recorded)) → (k : ℕ) × (slice_get (opened_numbers (placed named recorded)) k ≡ Some n)
opened_at named recorded n some = place_of_one n (opened_numbers (placed named recorded)) (has_opened named recorded n ∙ some)

-- ---- the trails that are kept, where none was handed out

same_test : (n : ℕ) (xs : List ℕ) → has n xs ≡ list_any (λ k. is_eq (nat_cmp n k)) xs
same_test n [] = refl
same_test n (x ∷ xs) = ap (λ b. b || has n xs) (sym (same_number n x)) ∙ ap (λ b. is_eq (nat_cmp n x) || b) (same_test n xs)

module _ (trails : BTreeMap ℕ Trail) (judging : Judging) (named : List ℕ) (carried : List Carried) (kept : AreTrailsKept trails judging named [] carried) where
  there : (n : ℕ) (o : Option Trail) → IsTrailKept judging named [] (whole_of named carried) carried n o → is_some o ≡ is_some (opened n (whole_of named carried))
  there n None (inl none) = sym (ap is_some none)
  there n None (inr gone) = absurd (true≢false (sym gone))
  there n (Some t) held = sym (ap is_some held.0)

  pub trails_in_order : Rises (keys trails) → ((q : ℕ) → is_some (get nat_cmp trails q) ≡ list_any (λ k. is_eq (nat_cmp q k)) (keys trails)) → keys trails ≡ opened_numbers (whole_of named carried)
  trails_in_order rises has_it = same_rising (keys trails) (opened_numbers (whole_of named carried)) rises (numbers_rise named (datagrams_of carried))
      (λ n. same_test n (keys trails) ∙ sym (has_it n) ∙ there n (get nat_cmp trails n) (kept n) ∙ sym (has_opened named (datagrams_of carried) n))
