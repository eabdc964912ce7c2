-- Three words that ask for what is missing.
use Rattle.std.proofs.Common.{◌≡◌, ◌↔◌, IsTrue, ℕ, List, [], ◌∷◌, length, map, codes, ap, sym, ◌∙◌, get_or, arith, Bool}
use Rattle.tftp_commands.specs.{AsksForLosses}

pub three_words : {A : Type 0} (f : A → List ℕ) (ws : List A) (x y : A) → length ws ≡ 3 → x ≡ get_or ws 1 x → y ≡ get_or ws 2 y → (p : List ℕ) × (map f ws ≡ p ∷ f x ∷ f y ∷ [])
three_words f [] x y three at then = absurd (omega arith)
three_words f (a ∷ []) x y three at then = absurd (omega arith)
three_words f (a ∷ b ∷ []) x y three at then = absurd (omega arith)
three_words f (a ∷ b ∷ c ∷ []) x y three at then = (f a, ap (λ w. f a ∷ f w ∷ f c ∷ []) (sym at) ∙ ap (λ w. f a ∷ f x ∷ f w ∷ []) (sym then))
three_words f (a ∷ b ∷ c ∷ d ∷ ws) x y three at then = absurd (omega arith)

second_same : (p q a b c d : List ℕ) → p ∷ a ∷ b ∷ [] ≡ q ∷ c ∷ d ∷ [] → a ≡ c
second_same p q a b c d e = cc

third_same : (p q a b c d : List ℕ) → p ∷ a ∷ b ∷ [] ≡ q ∷ c ∷ d ∷ [] → b ≡ d
third_same p q a b c d e = cc

pub asked : (words : List (List ℕ)) (p command option : List ℕ) (b : Bool) → words ≡ p ∷ command ∷ option ∷ [] → (IsTrue b ↔ ((command ≡ codes "check") × (option ≡ codes "--losses")))
    → (IsTrue b ↔ AsksForLosses words)
asked words p command option b are same = (
  λ t. (let both = same.0 t in (p, are ∙ ap (λ w. p ∷ w ∷ option ∷ []) both.0 ∙ ap (λ w. p ∷ codes "check" ∷ w ∷ []) both.1)),
  λ asks. same.1 (second_same p asks.0 command option (codes "check") (codes "--losses") (sym are ∙ asks.1), third_same p asks.0 command option (codes "check") (codes "--losses") (sym are ∙ asks.1)),
)
