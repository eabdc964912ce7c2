-- The place at which a list has what passes a test, and what stands where one item changes.
use Rattle.std.proofs.Common.{◌≡◌, ◌<◌, ◌+◌, ◌∷◌, not, nat_lt, ℕ, zero, suc, Bool, true, false, cond, List, [], Some, None, is_some, length, map, get_or, set, refl, sym, ap, ◌∙◌, arith}
use Rattle.std.specs.List.{AllByRecursion, position, position_or_len}
use Rattle.std.proofs.lemmas.Bool.{false≢true}
use Rattle.std.proofs.lemmas.List.Quantifiers.{position-Some}
use Rattle.std.proofs.lemmas.Bool.Decides.{nat_tests}
use Rattle.audit_recording.proofs.LossesLemmas.Keeping.{by_test}
use Rattle.audit_recording.proofs.SessionLemmas.Firsts.{NoneLike, NoTwo, Passes, Turns}

not_some : {A : Type 0} {x : A} → Some x ≡ None → ⊥
not_some is = false≢true (sym (ap is_some is))

module _ {B : Type 0} (test : B → Bool) where
  fails_all : (ks : List B) → (position_or_len test ks < length ks → ⊥) → AllByRecursion (λ k. test k ≡ false) ks
  fails_all [] none = tt
  fails_all (k ∷ ks) none = by_test (test k)
      (λ is. let at : position_or_len test (k ∷ ks) ≡ 0 = ap (λ b. cond (not b) (1 + position_or_len test ks) 0) is in absurd (none (omega (arith, at))))
      (λ off. let at : position_or_len test (k ∷ ks) ≡ 1 + position_or_len test ks = ap (λ b. cond (not b) (1 + position_or_len test ks) 0) off in
      (off, fails_all ks (λ below. none (omega (arith, at, below)))))

  -- where none has passed, all fail
  pub none_passes : (ks : List B) → position test ks ≡ None → AllByRecursion (λ k. test k ≡ false) ks
  none_passes ks none = fails_all ks (λ below.
      let is : nat_lt (position_or_len test ks) (length ks) ≡ true = grind (arith, nat_tests) in
      not_some (sym (ap (λ b. cond b (Some (position_or_len test ks)) None) is) ∙ none))

  pub place_below : (ks : List B) (i : ℕ) (d : B) → position test ks ≡ Some i → i < length ks
  place_below ks i d is = (position-Some test ks i d is).0

  pub place_passes : (ks : List B) (i : ℕ) (d : B) → position test ks ≡ Some i → test (get_or ks i d) ≡ true
  place_passes ks i d is = (position-Some test ks i d is).1

pub all_at : {B : Type 0} (P : B → Type 0) (ks : List B) (i : ℕ) (d : B) → i < length ks → AllByRecursion P ks → P (get_or ks i d)
all_at P [] i d below are = absurd (omega (arith, below))
all_at P (k ∷ ks) zero d below are = are.0
all_at P (k ∷ ks) (suc i) d below are = all_at P ks i d (omega (arith, below)) are.1

-- ---- one item changes

-- what is told of each stays
pub told_stays : {A B : Type 0} (told : B → A) (ks : List B) (i : ℕ) (k d : B) → told k ≡ told (get_or ks i d) → map told (set ks i k) ≡ map told ks
told_stays told [] i k d is = refl
told_stays told (first ∷ ks) zero k d is = ap (λ f. f ∷ map told ks) is
told_stays told (first ∷ ks) (suc i) k d is = ap (λ fs. told first ∷ fs) (told_stays told ks i k d is)

pub all_map : {A B : Type 0} (told : B → A) (P : A → Type 0) (ks : List B) → AllByRecursion (λ k. P (told k)) ks → AllByRecursion P (map told ks)
all_map told P [] are = tt
all_map told P (k ∷ ks) are = (are.0, all_map told P ks are.1)

pub all_on : {B : Type 0} (P Q : B → Type 0) (ks : List B) → ((k : B) → P k → Q k) → AllByRecursion P ks → AllByRecursion Q ks
all_on P Q [] on are = tt
all_on P Q (k ∷ ks) on are = (on k are.0, all_on P Q ks on are.1)

module _ {A : Type 0} (same : A → A → Bool) (passes : Passes same) (turns : Turns same) (x : A) where
  not_also : (f g : A) → same x f ≡ true → same g f ≡ false → same x g ≡ false
  not_also f g is off = by_test (same x g)
      (λ also. absurd (false≢true (sym off ∙ passes g x f (turns x g also) is)))
      (λ none. none)

  not_before : (f g : A) → same x g ≡ true → same g f ≡ false → same x f ≡ false
  not_before f g is off = by_test (same x f)
      (λ also. absurd (false≢true (sym off ∙ passes g x f (turns x g is) also)))
      (λ none. none)

  -- where each item is made of one of a list of unlike ones, that alone changes that is made of what is like it
  module _ {B : Type 0} (made now : A → B) (others : (f : A) → same x f ≡ false → made f ≡ now f) where
    pub made_alike : (fs : List A) → NoneLike same x fs → map made fs ≡ map now fs
    made_alike [] none = refl
    made_alike (f ∷ fs) none = λ i. others f none.0 i ∷ made_alike fs none.1 i

    rest_unlike : (f : A) (fs : List A) → same x f ≡ true → AllByRecursion (λ g. same g f ≡ false) fs → NoneLike same x fs
    rest_unlike f [] is unlike = tt
    rest_unlike f (g ∷ fs) is unlike = (not_also f g is unlike.0, rest_unlike f fs is unlike.1)

    module _ (test : B → Bool) (tests : (f : A) → test (made f) ≡ same x f) (add : B → B) (adds : (f : A) → same x f ≡ true → add (made f) ≡ now f) where
      unlike_made : (f : A) (fs : List A) (i : ℕ) (d : B) → i < length (map made fs) → test (get_or (map made fs) i d) ≡ true → AllByRecursion (λ g. same g f ≡ false) fs → same x f ≡ false
      unlike_made f [] i d below is unlike = absurd (omega (arith, below))
      unlike_made f (g ∷ fs) zero d below is unlike = not_before f g (sym (tests g) ∙ is) unlike.0
      unlike_made f (g ∷ fs) (suc i) d below is unlike = unlike_made f fs i d (omega (arith, below)) is unlike.1

      pub one_made : (fs : List A) (i : ℕ) (k d : B) → NoTwo same fs → i < length (map made fs) → test (get_or (map made fs) i d) ≡ true → k ≡ add (get_or (map made fs) i d)
          → set (map made fs) i k ≡ map now fs
      one_made [] i k d unlike below is more = absurd (omega (arith, below))
      one_made (f ∷ fs) zero k d unlike below is more =
          let like : same x f ≡ true = sym (tests f) ∙ is in
          λ j. (more ∙ adds f like) j ∷ made_alike fs (rest_unlike f fs like unlike.0) j
      one_made (f ∷ fs) (suc i) k d unlike below is more =
          let there : i < length (map made fs) = omega (arith, below) in
          λ j. others f (unlike_made f fs i d there is unlike.0) j ∷ one_made fs i k d unlike.1 there is more j

  -- of all that stand for one of a list of unlike ones, that alone changes that stands for what is like it
  module _ {B : Type 0} (told : B → A) (P Q : B → Type 0) (others : (k : B) → same x (told k) ≡ false → P k → Q k) where
    rest_stands : (f : A) (ks : List B) → same x f ≡ true → AllByRecursion (λ g. same g f ≡ false) (map told ks) → AllByRecursion P ks → AllByRecursion Q ks
    rest_stands f [] is unlike are = tt
    rest_stands f (k ∷ ks) is unlike are = (others k (not_also f (told k) is unlike.0) are.0, rest_stands f ks is unlike.1 are.1)

    unlike_there : (f : A) (ks : List B) (i : ℕ) (d : B) → i < length ks → AllByRecursion (λ g. same g f ≡ false) (map told ks) → same (told (get_or ks i d)) f ≡ false
    unlike_there f [] i d below unlike = absurd (omega (arith, below))
    unlike_there f (k ∷ ks) zero d below unlike = unlike.0
    unlike_there f (k ∷ ks) (suc i) d below unlike = unlike_there f ks i d (omega (arith, below)) unlike.1

    pub one_stands : (ks : List B) (i : ℕ) (k d : B) → NoTwo same (map told ks) → i < length ks → same x (told (get_or ks i d)) ≡ true → Q k
        → AllByRecursion P ks → AllByRecursion Q (set ks i k)
    one_stands [] i k d unlike below is now are = tt
    one_stands (first ∷ ks) zero k d unlike below is now are = (now, rest_stands (told first) ks is unlike.0 are.1)
    one_stands (first ∷ ks) (suc i) k d unlike below is now are =
        let there : i < length ks = omega (arith, below) in (
          others first (not_before (told first) (told (get_or ks i d)) is (unlike_there (told first) ks i d there unlike.0)) are.0,
          one_stands ks i k d unlike.1 there is now are.1,
        )
