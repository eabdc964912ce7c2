-- Doubts stay, and what is found in a list.
use Rattle.std.proofs.Common.{◌≡◌, ℕ, Bool, true, false, List, [], ◌∷◌, ◌++◌, Some, None, refl, sym, ap, subst, ◌∙◌, ◌&&◌, ◌||◌, if◌then◌else◌}
use Rattle.std.specs.List.{list_any, AllByRecursion}
use Rattle.std.proofs.lemmas.Bool.{false≢true, or_left, or_right, and_from}
use Rattle.audit_flows.specs.Lines.{Placed, is_of, newest_of, follows_strays, follows_unanswered, is_disordered, is_asked_again, is_late, may_be_answer_of, says_first_word}
use Rattle.audit_flows.specs.Transfers.{is_beside, is_doubted, is_doubtful, is_it, is_led_astray, some_of, is_answered_apart, tells_strays}
use Rattle.audit_spared.specs.Spared.{is_doubted_there, needs_doubt}
use Rattle.audit_flows.proofs.LinesLemmas.Lines.{by_test}

-- ---- doubts stay

pub some_or : (a b e f : Bool) → (a ≡ true → e ≡ true) → (b ≡ true → f ≡ true) → (a || b) ≡ true → (e || f) ≡ true
some_or true b e f one other is = or_left e f (one refl)
some_or false b e f one other is = or_right e f (other is)

some_more : (n : ℕ) (test : Placed → List Placed → Bool) (p : Placed) (older : List Placed) → some_of n test older ≡ true → some_of n test (p ∷ older) ≡ true
some_more n test p older is = or_right (is_of n p && test p older) (some_of n test older) is

pub doubted_more : (n : ℕ) (p : Placed) (older : List Placed) → is_doubted_there n older ≡ true → is_doubted_there n (p ∷ older) ≡ true
doubted_more n p older is = some_or (some_of n is_asked_again older) (is_answered_apart n older) (some_of n is_asked_again (p ∷ older)) (is_answered_apart n (p ∷ older))
    (some_more n is_asked_again p older) (or_right (is_it n (may_be_answer_of p older)) (is_answered_apart n older)) is

-- what makes doubtful at this datagram
module _ (n : ℕ) (p : Placed) (older : List Placed) where
  abbrev again : Bool
  again = some_of n is_asked_again (p ∷ older)

  abbrev apart : Bool
  apart = is_answered_apart n (p ∷ older)

  pub doubted_again : is_of n p ≡ true → is_asked_again p older ≡ true → is_doubted_there n (p ∷ older) ≡ true
  doubted_again of is = or_left again apart (or_left (is_of n p && is_asked_again p older) (some_of n is_asked_again older) (and_from (is_of n p) (is_asked_again p older) of is))

  pub doubted_apart : is_it n (may_be_answer_of p older) ≡ true → is_doubted_there n (p ∷ older) ≡ true
  doubted_apart is = or_right again apart (or_left (is_it n (may_be_answer_of p older)) (is_answered_apart n older) is)

-- such a doubt is a doubt
pub doubted_is : (n : ℕ) (placed : List Placed) → is_doubted_there n placed ≡ true → is_doubted n placed ≡ true
doubted_is n placed is =
    or_left (some_of n is_disordered placed || some_of n is_asked_again placed || is_answered_apart n placed || some_of n follows_strays placed) (some_of n follows_unanswered placed)
    (or_left (some_of n is_disordered placed || some_of n is_asked_again placed || is_answered_apart n placed) (some_of n follows_strays placed)
    (some_or (some_of n is_asked_again placed) (is_answered_apart n placed)
    (some_of n is_disordered placed || some_of n is_asked_again placed) (is_answered_apart n placed)
    (or_right (some_of n is_disordered placed) (some_of n is_asked_again placed)) (λ apart. apart) is))

pub or_more : (b c d : Bool) → b ≡ true → (b || c || d) ≡ true
or_more b c d is = or_left (b || c) d (or_left b c is)

pub doubtful_is : (n : ℕ) (placed : List Placed) (p : Placed) (older : List Placed) → needs_doubt n placed p older ≡ true → is_doubtful n placed p older ≡ true
doubtful_is n placed p older is =
    or_more (is_doubted n placed || is_led_astray n placed p older || some_of n is_late (p ∷ older) || is_beside p) (tells_strays n p older) (some_of n says_first_word (p ∷ older))
    (or_left (is_doubted n placed || is_led_astray n placed p older || some_of n is_late (p ∷ older)) (is_beside p)
    (some_or (is_doubted_there n placed) (some_of n is_late (p ∷ older)) (is_doubted n placed || is_led_astray n placed p older) (some_of n is_late (p ∷ older))
    (λ there. or_left (is_doubted n placed) (is_led_astray n placed p older) (doubted_is n placed there)) (λ late. late) is))

-- ---- lists

pub all_and : {X : Type 0} (P : X → Type 0) (xs ys : List X) → AllByRecursion P xs → AllByRecursion P ys → AllByRecursion P (xs ++ ys)
all_and P [] ys one other = other
all_and P (x ∷ xs) ys one other = (one.0, all_and P xs ys one.1 other)

pub all_first : {X : Type 0} (P : X → Type 0) (xs ys : List X) → AllByRecursion P (xs ++ ys) → AllByRecursion P xs
all_first P [] ys all = tt
all_first P (x ∷ xs) ys all = (all.0, all_first P xs ys all.1)

pub all_last : {X : Type 0} (P : X → Type 0) (xs ys : List X) → AllByRecursion P (xs ++ ys) → AllByRecursion P ys
all_last P [] ys all = all
all_last P (x ∷ xs) ys all = all_last P xs ys all.1

pub all_map : {X : Type 0} (P Q : X → Type 0) → ((x : X) → P x → Q x) → (xs : List X) → AllByRecursion P xs → AllByRecursion Q xs
all_map P Q f [] all = tt
all_map P Q f (x ∷ xs) all = (f x all.0, all_map P Q f xs all.1)

-- what is found passes the test, and is as all are
pub newest_all : (P : Placed → Type 0) (test : Placed → Bool) (ps : List Placed) (p : Placed) → AllByRecursion P ps → newest_of test ps ≡ Some p → P p × (test p ≡ true)
newest_all P test [] p all found = absurd (cc)
newest_all P test (q ∷ ps) p all found = by_test (test q)
    (λ is. let same : Some q ≡ Some p = sym (ap (λ b. if b then Some q else newest_of test ps) is) ∙ found in
    let this : q ≡ p = cc in (subst P this all.0, subst (λ r. test r ≡ true) this is))
    (λ off. newest_all P test ps p all.1 (sym (ap (λ b. if b then Some q else newest_of test ps) off) ∙ found))

-- in the first part, or in the second where the first has none
pub newest_first : (test : Placed → Bool) (ps qs : List Placed) → list_any test ps ≡ true → newest_of test (ps ++ qs) ≡ newest_of test ps
newest_first test [] qs any = absurd (false≢true any)
newest_first test (p ∷ ps) qs any = by_test (test p)
    (λ is. ap (λ b. if b then Some p else newest_of test (ps ++ qs)) is ∙ sym (ap (λ b. if b then Some p else newest_of test ps) is))
    (λ off. ap (λ b. if b then Some p else newest_of test (ps ++ qs)) off
    ∙ newest_first test ps qs (sym (ap (λ b. b || list_any test ps) off) ∙ any) ∙ sym (ap (λ b. if b then Some p else newest_of test ps) off))

pub newest_last : (test : Placed → Bool) (ps qs : List Placed) → list_any test ps ≡ false → newest_of test (ps ++ qs) ≡ newest_of test qs
newest_last test [] qs none = refl
newest_last test (p ∷ ps) qs none = by_test (test p)
    (λ is. absurd (false≢true (sym none ∙ ap (λ b. b || list_any test ps) is)))
    (λ off. ap (λ b. if b then Some p else newest_of test (ps ++ qs)) off ∙ newest_last test ps qs (sym (ap (λ b. b || list_any test ps) off) ∙ none))

pub newest_some : (test : Placed → Bool) (ps : List Placed) → newest_of test ps ≡ None → list_any test ps ≡ false
newest_some test [] none = refl
newest_some test (p ∷ ps) none = by_test (test p)
    (λ is. let both : Some p ≡ None = sym (ap (λ b. if b then Some p else newest_of test ps) is) ∙ none in absurd (cc))
    (λ off. ap (λ b. b || list_any test ps) off ∙ newest_some test ps (sym (ap (λ b. if b then Some p else newest_of test ps) off) ∙ none))

pub any_some : (test : Placed → Bool) (ps : List Placed) → list_any test ps ≡ true → newest_of test ps ≡ None → ⊥
any_some test ps any none = false≢true (sym (newest_some test ps none) ∙ any)

pub any_append : (test : Placed → Bool) (ps qs : List Placed) → list_any test ps ≡ true → list_any test (ps ++ qs) ≡ true
any_append test [] qs any = absurd (false≢true any)
any_append test (p ∷ ps) qs any = some_or (test p) (list_any test ps) (test p) (list_any test (ps ++ qs)) (λ is. is) (any_append test ps qs) any
