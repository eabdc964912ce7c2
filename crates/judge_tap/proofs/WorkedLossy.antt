-- The worked cases of what is refused with losses.
use Rattle.std.proofs.Common.{◌≡◌, ℕ, List, [], ◌∷◌, Some, None, true, inl, inr, refl, sym, subst, ap, ◌∙◌, arith}
use Rattle.std.proofs.lemmas.Bool.{true≢false}
use Rattle.tftp_packet.specs.{Message, End, Server}
use Rattle.law_model.specs.{EndRule}
use Rattle.law_model.specs.Model.{request_of, two_bytes}
use Rattle.law_end.specs.{Rule}
use Rattle.law_end.proofs.Division.Divided.{any_cases, any_none}
use Rattle.law_end.proofs.Spelled.{spelled_once}
use Rattle.law_tap.specs.{IsSaid, IsSaidBy, worked_sides, hi_passes, ack_passes, zero_passes, ack_above, ho_passes, second_passes, ack_between, block_between}
use Rattle.law_tap.specs.WorkedTap.{request_passes}
use Rattle.law_tap.specs.SaidFigures.{FitsSaid, FitsSize}
use Rattle.law_tap.proofs.OneTapDivision.{one_end}
use Rattle.law_tap.proofs.WorkedLosses.{request_says, ack_says}
use Rattle.law_tap.proofs.WorkedLossyRules.{hi_before, above_broken, above_certain, change_broken, change_certain, second_broken, second_certain, zero_broken, zero_certain, ack_uncertain}
use Rattle.law_tap.proofs.WorkedTap.{sides_apart}
use Rattle.judge_tap.specs.declared.lossy_refusal.LossyRefusal.{LossyRefusal}
use Rattle.judge_tap.specs.{HasBegun, IsErrorPut, IsNewlySaid, RefusesWithLosses, long_blocks, lowered_request}
use Rattle.judge_tap.proofs.LossyFound.{request_next}

abbrev hi : Message
hi = Message.Data 1 (104 ∷ 105 ∷ [])

pub hi_said : IsSaidBy worked_sides Server hi hi_passes
hi_said = elim (any_cases (IsSaidBy worked_sides Server hi) hi_passes (request_passes ∷ []) hi_before) [
  | inl now ↦ now
  | inr before ↦ elim (any_cases (IsSaidBy worked_sides Server hi) request_passes [] before) [
    | inl now ↦ let no = spelled_once request_passes.payload hi (Message.Request (request_of two_bytes)) now.spells request_says in absurd (cc)
    | inr none ↦ absurd (any_none (IsSaidBy worked_sides Server hi) none)
  ]
]

pub above_refused : RefusesWithLosses worked_sides block_between ack_above (LossyRefusal.Certain 3 (Rule.Block EndRule.AckAhead))
above_refused = (refl, above_broken, above_certain)

pub change_refused : RefusesWithLosses worked_sides block_between ho_passes (LossyRefusal.Certain 3 (Rule.Block EndRule.BlockChanged))
change_refused = (refl, change_broken, change_certain)

pub second_refused : RefusesWithLosses worked_sides block_between second_passes (LossyRefusal.Certain 3 (Rule.Block EndRule.BlockLength))
second_refused = (refl, second_broken, second_certain)

pub zero_refused : RefusesWithLosses worked_sides (request_passes ∷ []) zero_passes (LossyRefusal.Certain 2 (Rule.Block EndRule.AckZero))
zero_refused = (refl, zero_broken, zero_certain)

pub no_other_index : RefusesWithLosses worked_sides block_between ack_above (LossyRefusal.Certain 2 (Rule.Block EndRule.AckAhead)) → ⊥
no_other_index refused = let is = refused.0 in omega (arith, is)

pub ack_begun : HasBegun worked_sides ack_between
ack_begun = inr (inl (inr ((_, request_next worked_sides), tt)))

pub ack_not_refused : (index : ℕ) (broken : Rule) → RefusesWithLosses worked_sides (request_passes ∷ []) ack_passes (LossyRefusal.Certain index broken) → ⊥
ack_not_refused index broken refused = ack_uncertain refused.2

pub block_first : HasBegun worked_sides (request_passes ∷ hi_passes ∷ []) → ⊥
block_first (inl none) = true≢false (sym hi_said.goes ∙ none.1.0)
block_first (inr (inl (inl begins))) = begins
block_first (inr (inl (inr ((asked, says), none)))) = let no = spelled_once hi_passes.payload (Message.Request asked) hi says.spells hi_said.spells in absurd (cc)
block_first (inr (inr first)) = true≢false (sym hi_said.goes ∙ first.1.0)

-- the request says no block
none_before : (other : List ℕ) → IsSaid worked_sides (request_passes ∷ []) Server (Message.Data 1 other) → ⊥
none_before other said = elim (any_cases (IsSaidBy worked_sides Server (Message.Data 1 other)) request_passes [] said) [
  | inl now ↦ let no = spelled_once request_passes.payload (Message.Data 1 other) (Message.Request (request_of two_bytes)) now.spells request_says in absurd (cc)
  | inr none ↦ any_none (IsSaidBy worked_sides Server (Message.Data 1 other)) none
]

pub block_takes : RefusesWithLosses worked_sides (request_passes ∷ []) hi_passes (LossyRefusal.Memory 1)
block_takes = (refl, (Server, hi, hi_said, none_before))

pub block_again : RefusesWithLosses worked_sides block_between hi_passes (LossyRefusal.Memory 2) → ⊥
block_again (counted, (e, m, says, new)) =
    let end : e ≡ Server = one_end worked_sides sides_apart e Server (sym says.source ∙ hi_said.source) in
    let message : m ≡ hi = spelled_once hi_passes.payload m hi says.spells hi_said.spells in
    by e m end message new
  where
    by : (e : End) (m : Message) → e ≡ Server → m ≡ hi → IsNewlySaid worked_sides block_between e m → ⊥
    by e m end message new = (subst (λ g. IsNewlySaid worked_sides block_between g hi) end (subst (λ x. IsNewlySaid worked_sides block_between e x) message new)) (104 ∷ 105 ∷ []) hi_before

pub ack_takes_none : RefusesWithLosses worked_sides (request_passes ∷ []) ack_passes (LossyRefusal.Memory 1) → ⊥
ack_takes_none (counted, (e, m, says, new)) =
    let message : m ≡ Message.Ack 1 = spelled_once ack_passes.payload m (Message.Ack 1) says.spells ack_says in
    subst (λ x. IsNewlySaid worked_sides (request_passes ∷ []) e x) message new

pub usual_fits : FitsSaid lowered_request None long_blocks
usual_fits = inl (λ get zero. absurd (true≢false (sym zero)), record { numbered = omega (arith); below = λ long is. let same : 512 ≡ long = cc in sym same; tail = λ long is. absurd (cc) })

pub eight_do_not : FitsSize 8 long_blocks → ⊥
eight_do_not fits = let is = fits.below 512 refl in omega (arith, is)

pub other_error : IsErrorPut (Some (5, [])) (1, []) (Some (5, [])) true → ⊥
other_error put = let same = put.1.0 refl in let code : ◌≡◌ {A = ℕ} 1 5 = ap (λ (x : ℕ × List ℕ). x.0) same in omega (arith, code)
