-- Numbers of four bytes, one after another.
use Rattle.std.proofs.Common.{◌≡◌, ℕ, ◌*◌, List, [], ◌∷◌, ◌++◌, length, refl, sym, ap, ◌∙◌, arith}
use Rattle.net_pcap.specs.{four, Spells, Order}

pub spells_length : (order : Order) (s ns : List ℕ) → Spells order s ns → length s ≡ 4 * length ns
spells_length order s [] e = ap length e
spells_length order s (n ∷ ns) (a, b, c, d, rest, are, is, more) = omega (arith, ap length are, spells_length order rest ns more)

-- where two lists begin with as many numbers, the numbers are the same, and so is what follows them
pub spells_one : (order : Order) (f g x y ms ns : List ℕ) → Spells order f ms → Spells order g ns → length ms ≡ length ns → f ++ x ≡ g ++ y → (ms ≡ ns) × (f ≡ g) × (x ≡ y)
spells_one order f g x y [] [] p q sized e = (refl, p ∙ sym q, ap (λ l. l ++ x) (sym p) ∙ e ∙ ap (λ l. l ++ y) q)
spells_one order f g x y [] (n ∷ ns) p q sized e = absurd (omega (arith, sized))
spells_one order f g x y (m ∷ ms) [] p q sized e = absurd (omega (arith, sized))
spells_one order f g x y (m ∷ ms) (n ∷ ns) (a, b, c, d, rest, are, is, more) (a', b', c', d', rest', are', is', more') sized e =
    let whole : a ∷ b ∷ c ∷ d ∷ (rest ++ x) ≡ a' ∷ b' ∷ c' ∷ d' ∷ (rest' ++ y) = ap (λ l. l ++ x) (sym are) ∙ e ∙ ap (λ l. l ++ y) are' in
    let ea : a ≡ a' = cc in
    let eb : b ≡ b' = cc in
    let ec : c ≡ c' = cc in
    let ed : d ≡ d' = cc in
    let others : rest ++ x ≡ rest' ++ y = cc in
    let one : m ≡ n = is ∙ (λ i. four order (ea i) (eb i) (ec i) (ed i)) ∙ sym is' in
    let tail = spells_one order rest rest' x y ms ns more more' (omega (arith, sized)) others in
    ((λ i. one i ∷ tail.0 i), are ∙ (λ i. ea i ∷ eb i ∷ ec i ∷ ed i ∷ tail.1 i) ∙ sym are', tail.2)
