use Rattle.std.proofs.Common.{◌≡◌, ◌<◌, ◌+◌, ◌*◌, inl, inr, lit≤, ℕ, [], ◌∷◌, refl, ◌∙◌, arith}
use Rattle.tftp_packet.specs.{Message, Spells}
use Rattle.judge_pair.specs.Judge.Worked.{block_65535, block_65536, by_its_number}
use Rattle.law_end.proofs.Spelled.{spelled_once}
use Rattle.judge_pair.proofs.JudgeLemmas.Highest.{high_rises, none_high}
use Rattle.judge_pair.proofs.judge.laws.worked_past_the_round.Goals as goal

abbrev block_of : ℕ → Message
block_of k = Message.Data k (104 ∷ [])

-- a block above 65535 is spelled with more in its third place
spelled : (x y : ℕ) → y < 256 → Spells (0 ∷ 3 ∷ x ∷ y ∷ 104 ∷ []) (block_of (256 * x + y))
spelled x y low = ((lit≤ tt, (lit≤ tt, (low, (lit≤ tt, tt)))), (x, y, (low, refl), refl))

number_in : (a b : ℕ) → block_of a ≡ block_of b → a ≡ b
number_in a b e = cc

pub returns-clause-read : goal.returns-clause-read
returns-clause-read c = (65535, high_rises [] block_65535 0 65535 (104 ∷ []) none_high (spelled 255 255 (lit≤ tt)), refl)

pub returns-clause-was_sent : goal.returns-clause-was_sent
returns-clause-was_sent c = (block_of 65536, spelled 256 0 (lit≤ tt), inl (refl, spelled 256 0 (lit≤ tt)))

pub returns-clause-not_by_its_number : goal.returns-clause-not_by_its_number
returns-clause-not_by_its_number c = λ was.
    let is : was.0 ≡ block_of 0 = spelled_once by_its_number.payload was.0 (block_of 0) was.1 (spelled 0 0 (lit≤ tt)) in
    elim was.2 [
      | inl now ↦ let e = number_in 65536 0 (spelled_once block_65536.payload (block_of 65536) was.0 (spelled 256 0 (lit≤ tt)) now.1 ∙ is) in omega (arith, e)
      | inr before ↦ elim before [
        | inl now ↦ let e = number_in 65535 0 (spelled_once block_65535.payload (block_of 65535) was.0 (spelled 255 255 (lit≤ tt)) now.1 ∙ is) in omega (arith, e)
        | inr none ↦ none
      ]
    ]
