-- What is said at the end of the datagrams that a judge has accepted.
use Rattle.std.proofs.Common.{◌≡◌, ℕ, List, [], Some, None, Result, Err, refl, sym, subst, ◌∙◌, reverse}
use Rattle.tftp_packet.specs.{RequestParts}
use Rattle.tftp_packet.specs.Hosts.{Datagram, Header}
use Rattle.law_model.specs.Model.{Meaning, request_of}
use Rattle.law_model.specs.Rules.{transfer_of}
use Rattle.law_end.specs.{NoErrorPassed, OneEnded, FirstAsked}
use Rattle.tftp_judge.specs.{IsJudgeAfter, IsKept, IsTransferAfter, Judge, Transfer, IsVerdict, IsVerdictByRules, Refusal, Incomplete}
use Rattle.tftp_judge.proofs.ByRuns.{verdict}
use Rattle.tftp_judge.proofs.EndedTransfer.{unfinished_verdict}

nothing_asked : (h : Header) (asked : RequestParts) → FirstAsked h [] asked → ⊥
nothing_asked h asked first = let none : None ≡ Some first.0 = first.1 in cc

module _ (j : Judge) (h : Header) (earlier : List Datagram) (after : IsJudgeAfter j h earlier) where
  pub said_of_transfer : (t : Transfer) (said : Result Meaning Refusal) → j.state.transfer ≡ Some t
      → (OneEnded h earlier → FirstAsked h earlier t.asked → IsTransferAfter t h (transfer_of h earlier) → IsVerdictByRules h (reverse earlier) said) → IsVerdict h (reverse earlier) said
  said_of_transfer t said is by_rules =
      let kept : FirstAsked h earlier t.asked × IsTransferAfter t h (transfer_of h earlier) = subst (IsKept h earlier) is after.has_kept.kept in
      (verdict h (reverse earlier) said).1 (by_rules after.lawful kept.0 kept.1)

  -- what holds of the transfer that is kept
  pub of_transfer : (P : Type 0) (t : Transfer) → j.state.transfer ≡ Some t → (OneEnded h earlier → FirstAsked h earlier t.asked → IsTransferAfter t h (transfer_of h earlier) → P) → P
  of_transfer P t is by_rules =
      let kept : FirstAsked h earlier t.asked × IsTransferAfter t h (transfer_of h earlier) = subst (IsKept h earlier) is after.has_kept.kept in
      by_rules after.lawful kept.0 kept.1

  pub said_of_nothing : (count : ℕ) → j.state.transfer ≡ None → count ≡ j.fed → IsVerdict h (reverse earlier) (Err (Incomplete count))
  said_of_nothing count is counts =
      let none : earlier ≡ [] = subst (IsKept h earlier) is after.has_kept.kept in
      (verdict h (reverse earlier) (Err (Incomplete count))).1 (
      unfinished_verdict h earlier count (Incomplete count) after.lawful (λ m meant. nothing_asked h (request_of m) (subst (λ ds. FirstAsked h ds (request_of m)) none meant.asked)) (counts ∙ after.fed)
      (subst (λ ds. NoErrorPassed (transfer_of h ds)) (sym none) tt, refl))
