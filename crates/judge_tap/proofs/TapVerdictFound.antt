-- The verdict between the ends by the one at the end that gets the file.
use Rattle.std.proofs.Common.{◌≡◌, ℕ, List, [], ◌∷◌, ◌++◌, Option, Some, None, Result, Ok, Err, sym, subst, ◌∙◌, append_assoc, length, reverse}
use Rattle.std.proofs.lemmas.List.{reverse-reverse}
use Rattle.tftp_packet.specs.{RequestParts, End}
use Rattle.tftp_packet.specs.Hosts.{Datagram, Header}
use Rattle.law_model.specs.Model.{Meaning}
use Rattle.tftp_judge.specs.{IsUnlawfulAt, IsVerdict, Refusal}
use Rattle.tftp_judge.specs.declared.refusal.Refusal.TheVariants as of_end
use Rattle.law_end.specs.{IsLawful, IsEnded, IsFirstError, OneEnded, Rule}
use Rattle.law_end.proofs.Whole.Beginnings.{beginning_is_lawful}
use Rattle.law_end.proofs.Whole.TwoEnds.{lawful}
use Rattle.law_tap.specs.{TapDatagram, TapSides, AreApart, IsLawfulBetween, transfer_between, BreaksNoTapRule, FirstTapAsked, header_at, kept_between}
use Rattle.law_tap.proofs.TapLaw.{rules_run}
use Rattle.judge_tap.specs.{IsErrorAtTap, IsTapVerdict, NoneShown, said_at_tap, unfinished_by}
use Rattle.judge_tap.proofs.KeptLawful.{kept_lawful}
use Rattle.judge_tap.proofs.TapShown.{never_shown, shown_at_end, shown_between}

-- what is lawful has no first unlawful datagram
never_unlawful : (h : Header) (datagrams : List Datagram) (index : ℕ) (rule : Rule) → IsLawful h datagrams → IsUnlawfulAt (IsLawful h) h datagrams index rule → ⊥
never_unlawful h datagrams index rule is at =
    at.unlawful (beginning_is_lawful h (at.before ++ at.datagram ∷ []) at.rest (subst (IsLawful h) (at.split ∙ sym (append_assoc at.before (at.datagram ∷ []) at.rest)) is))

module _ (s : TapSides) (apart : AreApart s) (tapped : List TapDatagram) (passes : BreaksNoTapRule s tapped) (asked : RequestParts) (first : FirstTapAsked s (transfer_between s tapped) asked)
    (error : Option (End × ℕ)) (is_first : IsFirstError (IsErrorAtTap s) (transfer_between s tapped) error) (count : ℕ) (counts : count ≡ length tapped) where
  between : IsLawfulBetween s tapped
  between = rules_run s apart tapped passes

  lawful_there : IsLawful (header_at s asked.side) (reverse (kept_between s asked.side (transfer_between s tapped)))
  lawful_there = (lawful (header_at s asked.side) (reverse (kept_between s asked.side (transfer_between s tapped)))).1
      (subst (OneEnded (header_at s asked.side)) (sym (reverse-reverse (kept_between s asked.side (transfer_between s tapped)))) (kept_lawful s apart tapped passes asked first))

  unfinished : NoneShown s tapped → (o : Option (End × ℕ)) → IsFirstError (IsErrorAtTap s) (transfer_between s tapped) o → IsTapVerdict s tapped (Err (unfinished_by o count))
  unfinished none None is = (between, none, is, counts)
  unfinished none (Some x) is = (between, none, is)

  pub said_found : (found : Result Meaning Refusal) → IsVerdict (header_at s asked.side) (reverse (kept_between s asked.side (transfer_between s tapped))) found → IsTapVerdict s tapped (said_at_tap found error count)
  said_found (Ok m) (legal, (wire, shown), writable) = (between, (wire, shown_between s apart tapped asked first passes m wire shown), writable)
  said_found (Err (of_end.Unlawful index rule)) at = absurd (never_unlawful (header_at s asked.side) (reverse (kept_between s asked.side (transfer_between s tapped))) index rule lawful_there at)
  said_found (Err (of_end.Aborted by code)) (legal, none, is) = unfinished (λ m shown. none m (shown.0, shown_at_end s apart tapped asked first m shown.0 shown.1)) error is_first
  said_found (Err (of_end.Incomplete n)) (legal, none, going, is) = unfinished (λ m shown. none m (shown.0, shown_at_end s apart tapped asked first m shown.0 shown.1)) error is_first
  said_found (Err of_end.NormalTooLong) (legal, (m, (wire, shown)), long) = (
    between,
    (m, (wire, shown_between s apart tapped asked first passes m wire shown)),
    λ n is writable. long n (is.0, shown_at_end s apart tapped asked first n is.0 is.1) writable,
  )
  said_found (Err (of_end.Memory n)) (legal, ended, is) = (between, (asked, first, subst (IsEnded (header_at s asked.side)) (reverse-reverse (kept_between s asked.side (transfer_between s tapped))) ended), counts)

-- nothing of the transfer has passed
pub nothing_said : (s : TapSides) → AreApart s → (tapped : List TapDatagram) → BreaksNoTapRule s tapped → transfer_between s tapped ≡ [] → (count : ℕ) → count ≡ length tapped → IsTapVerdict s tapped (Err (unfinished_by None count))
nothing_said s apart tapped passes none count counts = (
  rules_run s apart tapped passes,
  λ m shown. never_shown s apart tapped none m shown.0 shown.1,
  subst (λ (l : List TapDatagram). IsFirstError (IsErrorAtTap s) l None) (sym none) tt,
  counts,
)
