-- Which commands two words and four words name.
use Rattle.std.proofs.Common.{◌≡◌, ℕ, List, [], ◌∷◌, Option, None, Some, IfSome, codes, refl, sym, ap, ◌∙◌}
use Rattle.tftp_packet.specs.{Rollover}
use Rattle.tftp_commands.specs.{Action, IsCommand, digit_of, name_of, option_words, rollover_of}

pub some_two : (result : Option Action) (word : List ℕ) (words : List (List ℕ)) (program : List ℕ) → words ≡ program ∷ word ∷ []
    → IfSome result (λ a. (word ≡ name_of a) × (rollover_of a ≡ None)) → IfSome result (λ a. IsCommand a words)
some_two None word words program are named = tt
some_two (Some a) word words program are (name, none) = (program, are ∙ ap (λ w. program ∷ w ∷ []) name ∙ ap (λ r. program ∷ name_of a ∷ option_words r) (sym none))

pub some_four : (result : Option Action) (word option digit : List ℕ) (r : Rollover) (words : List (List ℕ)) (program : List ℕ) → words ≡ program ∷ word ∷ option ∷ digit ∷ []
    → option ≡ codes "--rollover" → digit ≡ digit_of r → IfSome result (λ a. (word ≡ name_of a) × (rollover_of a ≡ Some r)) → IfSome result (λ a. IsCommand a words)
some_four None word option digit r words program are is_option is_digit named = tt
some_four (Some a) word option digit r words program are is_option is_digit (name, some) = (
  program,
  are ∙ ap (λ w. program ∷ w ∷ option ∷ digit ∷ []) name ∙ ap (λ w. program ∷ name_of a ∷ w ∷ digit ∷ []) is_option ∙ ap (λ w. program ∷ name_of a ∷ codes "--rollover" ∷ w ∷ []) is_digit
      ∙ ap (λ r. program ∷ name_of a ∷ option_words r) (sym some),
)

-- a command in two words is told nothing
two_tell : (rollover : Option Rollover) (p q w v : List ℕ) → p ∷ w ∷ [] ≡ q ∷ v ∷ option_words rollover → (w ≡ v) × (rollover ≡ None)
two_tell None p q w v are = (cc, refl)
two_tell (Some r) p q w v are = absurd (cc)

pub only_two : (a : Action) (word : List ℕ) (words : List (List ℕ)) (program : List ℕ) → words ≡ program ∷ word ∷ [] → IsCommand a words → (word ≡ name_of a) × (rollover_of a ≡ None)
only_two a word words program are is = two_tell (rollover_of a) program is.0 word (name_of a) (sym are ∙ is.1)

-- and one in four what comes after block 65535
four_tell : (rollover : Option Rollover) (p q w v option digit : List ℕ) → p ∷ w ∷ option ∷ digit ∷ [] ≡ q ∷ v ∷ option_words rollover
    → (w ≡ v) × (option ≡ codes "--rollover") × (r : Rollover) × (rollover ≡ Some r) × (digit ≡ digit_of r)
four_tell None p q w v option digit are = absurd (cc)
four_tell (Some r) p q w v option digit are = (cc, cc, r, refl, cc)

pub only_four : (a : Action) (word option digit : List ℕ) (words : List (List ℕ)) (program : List ℕ) → words ≡ program ∷ word ∷ option ∷ digit ∷ [] → IsCommand a words
    → (word ≡ name_of a) × (option ≡ codes "--rollover") × (r : Rollover) × (rollover_of a ≡ Some r) × (digit ≡ digit_of r)
only_four a word option digit words program are is = four_tell (rollover_of a) program is.0 word (name_of a) option digit (sym are ∙ is.1)
