-- A text is accepted exactly if a run of two ends shows it as a whole transfer, and what follows for its normal text.
use Rattle.std.proofs.Common.{◌≡◌, ◌≤◌, ◌↔◌, ℕ, List, [], ◌∷◌, Ok, Option, Some, length, reverse, refl, arith}
use Rattle.std.proofs.lemmas.List.{length-reverse}
use Rattle.tftp_packet.specs.{Rollover}
use Rattle.tftp_packet.specs.Hosts.{Datagram, Header}
use Rattle.law_model.specs.Model.{Meaning}
use Rattle.law_end.specs.{wire_of}
use Rattle.law_rollover.specs.{AreUnrolled, ShowsByNumber}
use Rattle.tftp_judge.specs.{IsTextVerdictBy}
use Rattle.tftp_normal.specs.{IsAcceptedBy, normal_datagrams_by, normal_text_by}
use Rattle.tftp_normal.proofs.Lengths.{shortest}
use Rattle.tftp_normal.proofs.Texts.{judged_text, normal_accepted, normal_again, same_texts, shown_text, unrolled_shows}

pub accepted : (rollover : Option Rollover) (text : List ℕ) (m : Meaning) → IsTextVerdictBy rollover text (Ok m) ↔ IsAcceptedBy rollover text m
accepted rollover text m = (shown_text rollover text m, judged_text rollover text m)

pub equal : (rollover : Option Rollover) (text other : List ℕ) (m o : Meaning) → IsTextVerdictBy rollover text (Ok m) → IsTextVerdictBy rollover other (Ok o)
    → normal_text_by rollover m ≡ normal_text_by rollover o ↔ m ≡ o
equal rollover text other m o said also = same_texts rollover text other m o (shown_text rollover text m said) (shown_text rollover other o also)

pub normal : (rollover : Option Rollover) (text : List ℕ) (m : Meaning) → IsTextVerdictBy rollover text (Ok m)
    → IsTextVerdictBy rollover (normal_text_by rollover m) (Ok m) × ((o : Meaning) → IsTextVerdictBy rollover (normal_text_by rollover m) (Ok o) → normal_text_by rollover o ≡ normal_text_by rollover m)
normal rollover text m said =
    let shown = shown_text rollover text m said in (
      judged_text rollover (normal_text_by rollover m) m (normal_accepted rollover text m shown),
      λ o again. normal_again rollover text m o shown (shown_text rollover (normal_text_by rollover m) o again),
    )

unrolled_length : (r : Rollover) (h : Header) (datagrams unrolled : List Datagram) → AreUnrolled r h datagrams unrolled → length unrolled ≡ length datagrams
unrolled_length r h [] [] are = refl
unrolled_length r h [] (now ∷ unrolled) are = absurd are
unrolled_length r h (d ∷ datagrams) [] are = absurd are
unrolled_length r h (d ∷ datagrams) (now ∷ unrolled) are = let rest = unrolled_length r h datagrams unrolled are.1 in omega (arith, rest)

-- what is shown by numbers is as long as with the blocks in their place
pub shortest_by_numbers : (r : Rollover) (h : Header) (m : Meaning) (datagrams : List Datagram) → ShowsByNumber r h m (wire_of m) datagrams
    → length (normal_datagrams_by (Some r) m) ≤ length datagrams
shortest_by_numbers r h m datagrams shown =
    let (unrolled, are, by_blocks) = unrolled_shows r h m (wire_of m) datagrams shown in
    let least = shortest (Some r) h m unrolled by_blocks in
    let same = unrolled_length r h (reverse datagrams) (reverse unrolled) are in
    let one = length-reverse datagrams in
    let other = length-reverse unrolled in
    omega (arith, least, same, one, other)
