-- The first datagram that is not lawful stays the first, whatever comes; and none of lawful ones is it. Lists have the newest first.
use Rattle.std.proofs.Common.{◌≡◌, ◌≤◌, ◌<◌, ◌+◌, ℕ, List, [], ◌∷◌, ◌++◌, arith, append_assoc, length, length-append, refl, sym, ap, subst, ◌∙◌, nat_le}
use Rattle.std.proofs.lemmas.Bool.{leb-false, leb-true}
use Rattle.audit_flows.proofs.LinesLemmas.Lines.{by_test}

-- those before it are lawful, and with it they are not
pub record IsFirst {X : Type 0} (Lawful : List X → Type 0) (given : List X) (number : ℕ) : Type 0 where
  pub later : List X
  pub datagram : X
  pub earlier : List X
  pub are : given ≡ later ++ datagram ∷ earlier
  pub number_is : number ≡ length earlier + 1
  pub lawful : Lawful earlier
  pub unlawful : Lawful (datagram ∷ earlier) → ⊥

module _ {X : Type 0} (Lawful : List X → Type 0) (before : (x : X) (xs : List X) → Lawful (x ∷ xs) → Lawful xs) where
  all_before : (later earlier : List X) → Lawful (later ++ earlier) → Lawful earlier
  all_before [] earlier lawful = lawful
  all_before (x ∷ later) earlier lawful = all_before later earlier (before x (later ++ earlier) lawful)

  -- of two ends of one list the shorter is lawful, where the longer is
  shorter : (a b c e : List X) → a ++ b ≡ c ++ e → length e ≤ length b → Lawful b → Lawful e
  shorter [] b c e same short lawful = all_before c e (subst Lawful same lawful)
  shorter (x ∷ a) b [] e same short lawful = absurd (omega (arith, ap length same, length-append a b, short))
  shorter (x ∷ a) b (y ∷ c) e same short lawful = let rest : a ++ b ≡ c ++ e = cc in shorter a b c e rest short lawful

  pub none_of_lawful : (more given : List X) (number : ℕ) → Lawful given → IsFirst Lawful (more ++ given) number → length given < number
  none_of_lawful more given number lawful first = by_test (nat_le number (length given))
      (λ is. absurd (first.unlawful (shorter more given first.later (first.datagram ∷ first.earlier) first.are
      (let low = leb-true number (length given) is in let at = first.number_is in omega (arith, low, at)) lawful)))
      (λ off. leb-false number (length given) off)

  later_of : (a e : List X) (d : X) → a ++ d ∷ e ≡ (a ++ d ∷ []) ++ e
  later_of a e d = sym (append_assoc a (d ∷ []) e)

  not_before : (a b : List X) (n k : ℕ) (one : IsFirst Lawful a n) → (first : IsFirst Lawful b k) → (more : List X) → b ≡ more ++ a → n ≤ k
  not_before a b n k one first more is = by_test (nat_le n k)
      (λ low. leb-true n k low)
      (λ off. absurd (first.unlawful (shorter (more ++ (one.later ++ one.datagram ∷ [])) one.earlier first.later (first.datagram ∷ first.earlier)
      (append_assoc more (one.later ++ one.datagram ∷ []) one.earlier
      ∙ ap (λ l. more ++ l) (sym (later_of one.later one.earlier one.datagram) ∙ sym one.are) ∙ sym is ∙ first.are)
      (let high = leb-false n k off in let at = one.number_is in let there = first.number_is in omega (arith, high, at, there)) one.lawful)))

  not_after : (a b : List X) (n k : ℕ) (one : IsFirst Lawful a n) → (first : IsFirst Lawful b k) → (more : List X) → b ≡ more ++ a → k ≤ n
  not_after a b n k one first more is = by_test (nat_le k n)
      (λ low. leb-true k n low)
      (λ off. absurd (one.unlawful (shorter (first.later ++ first.datagram ∷ []) first.earlier (more ++ one.later) (one.datagram ∷ one.earlier)
      (sym (later_of first.later first.earlier first.datagram) ∙ sym first.are ∙ is ∙ ap (λ l. more ++ l) one.are ∙ sym (append_assoc more one.later (one.datagram ∷ one.earlier)))
      (let high = leb-false k n off in let at = one.number_is in let there = first.number_is in omega (arith, high, at, there)) first.lawful)))

  pub one_first : (more given : List X) (number other : ℕ) → IsFirst Lawful given number → IsFirst Lawful (more ++ given) other → other ≡ number
  one_first more given number other one first =
      let low = not_before given (more ++ given) number other one first more refl in
      let high = not_after given (more ++ given) number other one first more refl in
      omega (arith, low, high)
