-- Numbers of names: where no two of them are equal no two names are.
use Rattle.std.proofs.Common.{◌≡◌, inl, inr, ◌⊎◌, Bool, true, false, not, cond, ℕ, ◌+◌, ◌-◌, ◌*◌, ◌%◌, ◌^◌, ◌≤◌, List, [], ◌∷◌, length, get_or, drop, take, refl, sym, ap, subst, ◌∙◌, take_all, arith, nat_cmp, is_lt, map as each, IfNone, IsPermutation, None, Option, Some}
use Rattle.std.specs.Char.{to_ascii_lowercase}
use Rattle.std.specs.Cmp.Lexicographic.{slice_cmp}
use Rattle.std.specs.List.Sorted.{IsSorted, IsSortedBy}
use Rattle.std.specs.Ordering.{ordering_then}
use Rattle.std.specs.declared.cmp.Ordering.{Ordering}
use Rattle.std.specs.declared.cmp.Ordering.TheVariants.{Less, Equal, Greater}
use Rattle.std.proofs.lemmas.List.Sorted.{IsPermutation-map}
use Rattle.std.proofs.lemmas.Bool.{cases_Bool}
use Rattle.tftp_packet.specs.{as_name, is_of, keys_in, keys_of, lower, mark_of, mixed, pairs_of, those, AnyOf, HasRepeat, HasTwo, HasTwoBeside}
use Rattle.tftp_packet.proofs.NameOrder.{any_named, beside_of_two, repeat_of_two, two_moved, two_of_repeat}

-- what two bytes leave to be mixed in
pub two_mixed : (mark a b : ℕ) (left : List ℕ) → 2 ≤ length left → a ≡ to_ascii_lowercase (get_or left 0 0) → b ≡ to_ascii_lowercase (get_or left 1 0)
    → mixed ((mark + (a + 256 * b)) % 2 ^ 64 * 11400714819323198485 % 2 ^ 64) (lower (take (length left - 2) (drop 2 left))) ≡ mixed mark (lower left)
two_mixed mark a b [] few is js = absurd (omega arith)
two_mixed mark a b (x ∷ []) few is js = absurd (omega arith)
two_mixed mark a b (x ∷ y ∷ rest) few is js = rw (is, js, take_all (length (x ∷ y ∷ rest) - 2) rest (omega arith)) refl

-- ---- equal names have equal numbers
any_marked : (key : List ℕ) (keys : List (List ℕ)) → AnyOf (λ later. key ≡ later) keys → AnyOf (λ later. as_name (mark_of key) ≡ later) (each as_name (each mark_of keys))
any_marked key [] any = any
any_marked key (name ∷ keys) (inl here) = inl (ap (λ k. as_name (mark_of k)) here)
any_marked key (name ∷ keys) (inr later) = inr (any_marked key keys later)

two_marked : (keys : List (List ℕ)) → HasTwo keys → HasTwo (each as_name (each mark_of keys))
two_marked [] two = two
two_marked (key ∷ keys) (inl here) = inl (any_marked key keys here)
two_marked (key ∷ keys) (inr later) = inr (two_marked keys later)

pub marks_of_two : (keys : List (List ℕ)) (marks : List ℕ) → marks ≡ each mark_of keys → HasTwo keys → HasTwo (each as_name marks)
marks_of_two keys marks are two = subst (λ m. HasTwo (each as_name m)) (sym are) (two_marked keys two)

-- ---- numbers in order
then_equal : (o : Ordering) → is_lt o ≡ is_lt (ordering_then o Equal)
then_equal Less = refl
then_equal Equal = refl
then_equal Greater = refl

pub beside_in_order : (marks sorted : List ℕ) → IsPermutation marks sorted → IsSorted nat_cmp sorted → HasTwo (each as_name marks) → HasTwoBeside (each as_name sorted)
beside_in_order marks sorted moved up two =
    let in_order : IsSortedBy (λ x y. is_lt (slice_cmp nat_cmp (as_name x) (as_name y))) sorted = λ k d low high. sym (then_equal (nat_cmp (get_or sorted (k + 1) d) (get_or sorted k d))) ∙ up k d low high in
    beside_of_two as_name sorted in_order (two_moved (each as_name marks) (each as_name sorted) (IsPermutation-map as_name marks sorted moved) two)

-- what is said where there is none says what follows from it
pub none_so : {X P Q : Type 0} (r : Option X) → (P → Q) → IfNone r P → IfNone r Q
none_so (Some x) f p = tt
none_so None f p = f p

-- ---- some of the names
module _ (test : List ℕ → Bool) where
  those_with : (name : List ℕ) (names : List (List ℕ)) → test name ≡ true → those test (name ∷ names) ≡ name ∷ those test names
  those_with name names is = ap (λ b. cond b (name ∷ those test names) (those test names)) is

  those_without : (name : List ℕ) (names : List (List ℕ)) → test name ≡ false → those test (name ∷ names) ≡ those test names
  those_without name names is = ap (λ b. cond b (name ∷ those test names) (those test names)) is

  any_those : (name : List ℕ) (names : List (List ℕ)) → test name ≡ true → AnyOf (λ later. name ≡ later) names → AnyOf (λ later. name ≡ later) (those test names)
  any_those name [] is any = any
  any_those name (next ∷ names) is (inl here) = subst (λ l. AnyOf (λ later. name ≡ later) l) (sym (those_with next names (sym (ap test here) ∙ is))) (inl here)
  any_those name (next ∷ names) is (inr later) = elim (cases_Bool (test next)) [
    | inl with ↦ subst (λ l. AnyOf (λ later. name ≡ later) l) (sym (those_with next names with)) (inr (any_those name names is later))
    | inr out ↦ subst (λ l. AnyOf (λ later. name ≡ later) l) (sym (those_without next names out)) (any_those name names is later)
  ]

  any_of_those : (name : List ℕ) (names : List (List ℕ)) → AnyOf (λ later. name ≡ later) (those test names) → AnyOf (λ later. name ≡ later) names
  any_of_those name [] any = any
  any_of_those name (next ∷ names) any = elim (cases_Bool (test next)) [
    | inl with ↦ elim (subst (λ l. AnyOf (λ later. name ≡ later) l) (those_with next names with) any) [ inl here ↦ inl here | inr later ↦ inr (any_of_those name names later) ]
    | inr out ↦ inr (any_of_those name names (subst (λ l. AnyOf (λ later. name ≡ later) l) (those_without next names out) any))
  ]

  two_more : (name : List ℕ) (names : List (List ℕ)) → HasTwo (those test names) → HasTwo (those test (name ∷ names))
  two_more name names two = elim (cases_Bool (test name)) [
    | inl with ↦ subst HasTwo (sym (those_with name names with)) (inr two)
    | inr out ↦ subst HasTwo (sym (those_without name names out)) two
  ]

  two_first : (name : List ℕ) (names : List (List ℕ)) → test name ≡ true → AnyOf (λ later. name ≡ later) names → HasTwo (those test (name ∷ names))
  two_first name names is any = subst HasTwo (sym (those_with name names is)) (inl (any_those name names is any))

  pub two_of_those : (names : List (List ℕ)) → HasTwo (those test names) → HasTwo names
  two_of_those [] two = two
  two_of_those (name ∷ names) two = elim (cases_Bool (test name)) [
    | inl with ↦ elim (subst HasTwo (those_with name names with) two) [ inl here ↦ inl (any_of_those name names here) | inr later ↦ inr (two_of_those names later) ]
    | inr out ↦ inr (two_of_those names (subst HasTwo (those_without name names out) two))
  ]

two_parted : (names : List (List ℕ)) → HasTwo names → HasTwo (those (is_of true) names) ⊎ HasTwo (those (is_of false) names)
two_parted [] two = absurd two
two_parted (name ∷ names) (inl any) = elim (cases_Bool (is_of true name)) [
  | inl long ↦ inl (two_first (is_of true) name names long any)
  | inr short ↦ inr (two_first (is_of false) name names (ap not short) any)
]
two_parted (name ∷ names) (inr later) = elim (two_parted names later) [
  | inl one ↦ inl (two_more (is_of true) name names one)
  | inr other ↦ inr (two_more (is_of false) name names other)
]

-- what is found among the long names and among the others is found among all
pub repeat_of_part : (long : Bool) (bytes : List ℕ) → HasTwo (keys_in long bytes) → HasRepeat (pairs_of bytes)
repeat_of_part long bytes two = repeat_of_two (pairs_of bytes) (two_of_those (is_of long) (keys_of bytes) two)

pub parts_of_repeat : (bytes : List ℕ) → HasRepeat (pairs_of bytes) → HasTwo (keys_in true bytes) ⊎ HasTwo (keys_in false bytes)
parts_of_repeat bytes repeat = two_parted (keys_of bytes) (two_of_repeat (pairs_of bytes) repeat)

pub two_named : (long : Bool) (name after : List ℕ) (keys : List (List ℕ)) → keys ≡ lower name ∷ keys_in long after → is_of long (lower name) ≡ true
    → AnyOf (λ pair. lower name ≡ lower pair.0) (pairs_of after) → HasTwo keys
two_named long name after keys are is any =
    subst HasTwo (sym are) (inl (any_those (is_of long) (lower name) (keys_of after) is (any_named name (pairs_of after) any)))
