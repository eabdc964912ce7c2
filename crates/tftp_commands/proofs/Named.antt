-- What the words of a command are.
use Rattle.std.proofs.Common.{◌≡◌, ℕ, List, [], ◌∷◌, length, map, true, refl, ap, sym, ◌∙◌, get_or, arith}
use Rattle.clap.specs.Takes.{takes}
use Rattle.clap.proofs.OnLiterals.{clap_on_literals}
use Rattle.tftp_commands.specs.{name_of, audit_app, Action, Check, Extract, Normal, Show, Count}

-- the program's name and a command's are taken
pub takes_named : (a : Action) (program : List ℕ) → takes audit_app (program ∷ name_of a ∷ []) ≡ true
unfolding clap_on_literals
takes_named (Check rollover) program = refl
takes_named (Extract rollover) program = refl
takes_named (Normal rollover) program = refl
takes_named (Show rollover) program = refl
takes_named (Count rollover) program = refl

-- two words, and four
pub two_words : {A : Type 0} (f : A → List ℕ) (ws : List A) (x : A) → length ws ≡ 2 → x ≡ get_or ws 1 x → (p : List ℕ) × (map f ws ≡ p ∷ f x ∷ [])
two_words f [] x two at = absurd (omega arith)
two_words f (a ∷ []) x two at = absurd (omega arith)
two_words f (a ∷ b ∷ []) x two at = (f a, ap (λ y. f a ∷ f y ∷ []) (sym at))
two_words f (a ∷ b ∷ d ∷ ws) x two at = absurd (omega arith)

pub four_words : {A : Type 0} (f : A → List ℕ) (ws : List A) (x y z : A) → length ws ≡ 4 → x ≡ get_or ws 1 x → y ≡ get_or ws 2 y → z ≡ get_or ws 3 z → (p : List ℕ) × (map f ws ≡ p ∷ f x ∷ f y ∷ f z ∷ [])
four_words f [] x y z four at then last = absurd (omega arith)
four_words f (a ∷ []) x y z four at then last = absurd (omega arith)
four_words f (a ∷ b ∷ []) x y z four at then last = absurd (omega arith)
four_words f (a ∷ b ∷ c ∷ []) x y z four at then last = absurd (omega arith)
four_words f (a ∷ b ∷ c ∷ d ∷ []) x y z four at then last = (f a, ap (λ w. f a ∷ f w ∷ f c ∷ f d ∷ []) (sym at) ∙ ap (λ w. f a ∷ f x ∷ f w ∷ f d ∷ []) (sym then) ∙ ap (λ w. f a ∷ f x ∷ f y ∷ f w ∷ []) (sym last))
four_words f (a ∷ b ∷ c ∷ d ∷ e ∷ ws) x y z four at then last = absurd (omega arith)

word_of : (w v x y : List ℕ) (ws vs : List (List ℕ)) → x ∷ w ∷ ws ≡ y ∷ v ∷ vs → w ≡ v
word_of w v x y ws vs e = cc

-- the second word
pub second_named : {A : Type 0} (f : A → List ℕ) (ws : List A) (x : A) (p name : List ℕ) (rest : List (List ℕ)) → x ≡ get_or ws 1 x → map f ws ≡ p ∷ name ∷ rest → f x ≡ name
second_named f [] x p name rest at are = absurd (cc)
second_named f (a ∷ []) x p name rest at are = absurd (cc)
second_named f (a ∷ b ∷ ws) x p name rest at are = ap f at ∙ word_of (f b) name (f a) p (map f ws) rest are
