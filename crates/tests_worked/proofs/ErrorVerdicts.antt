-- Worked verdicts of transfers in which an ERROR is sent.
use Rattle.std.proofs.Common.{ℕ, List, [], ◌∷◌, ◌++◌, reverse, codes, Some, None, inl, inr, Ok, Err, refl}
use Rattle.tftp_packet.specs.{Num, Get}
use Rattle.tftp_packet.specs.Hosts.{Datagram, Header}
use Rattle.law_model.specs.Model.{Meaning, two_bytes, eight_a_block}
use Rattle.law_model.specs.{NoReply, Plain, EndRule}
use Rattle.law_end.specs.{IsAborted, AbortedBy, Local, Peer, IsLawful, Meant, plain_terms, Rule}
use Rattle.law_end.proofs.Whole.TwoEnds.{whole}
use Rattle.tftp_judge.specs.{IsVerdict, Unlawful, Aborted}
use Rattle.tests_worked.specs.{at_client, acknowledges_hi, says_forbidden, read_refused, read_refused_twice, read_given_up, read_given_up_twice, stopped_at_the_end, stopped_after_the_end, block_after_error, before_late_answer, late_answer}
use Rattle.tests_worked.proofs.Exchanges.{acks, eight_news}
use Rattle.tests_worked.proofs.Bases.{asks_for, plain_asked, plain_begun, read_by_eight}
use Rattle.tests_worked.proofs.Options.{terms}
use Rattle.tests_worked.proofs.RefusedErrors.{not_found_spelled, stop_spelled, full_spelled, refused, refused_again, given_up, given_up_again, after_error, another_refused, ack_refused, late_refused}
use Rattle.tests_worked.proofs.Unfinished.{no_errors, means_nothing}
use Rattle.tests_worked.proofs.ErrorsShown.{refused_lawful, refused_again_lawful, given_up_lawful, given_up_again_lawful, stopped_shown, stopped_after_shown, after_lawful}
use Rattle.tests_worked.proofs.Verdicts.{accepted}
use Rattle.tests_worked.proofs.ByRules.{refused_verdict as refused_last}

aborted : (h : Header) (ds : List Datagram) (by : AbortedBy) (code : ℕ) → IsLawful h ds → ((m : Meaning) → Meant h (reverse ds) m → ⊥) → IsAborted h (reverse ds) by code → IsVerdict h ds (Err (Aborted by code))
aborted h ds by code lawful nothing first = (lawful, (λ m shown. nothing m ((whole h m ds).1 shown)), first)

-- ---- ended by the server

refused_first : IsAborted at_client (reverse read_refused) Peer 1
refused_first = inr (no_errors plain_asked.es plain_asked.spelled refl, (refl, codes "File not found", not_found_spelled))

pub refused_verdict : IsVerdict at_client read_refused (Err (Aborted Peer 1))
refused_verdict = aborted at_client read_refused Peer 1 refused_lawful (means_nothing at_client refused (plain_terms at_client Get NoReply) refl refl refl refl) refused_first

pub refused_again_verdict : IsVerdict at_client read_refused_twice (Err (Aborted Peer 1))
refused_again_verdict = aborted at_client read_refused_twice Peer 1 refused_again_lawful (means_nothing at_client refused_again (plain_terms at_client Get NoReply) refl refl refl refl) (inl refused_first)

pub after_verdict : IsVerdict at_client block_after_error (Err (Aborted Peer 0))
after_verdict = aborted at_client block_after_error Peer 0 after_lawful (means_nothing at_client after_error (terms at_client (asks_for Get eight_a_block) (Some (Num 8)) None None) refl refl refl refl)
    (inl (inr (no_errors (acks 1 ∷ eight_news ++ read_by_eight.es) after_error.spelled.1.1 refl, (refl, [], stop_spelled))))

-- ---- given up by the client

given_up_first : IsAborted at_client (reverse read_given_up) Local 3
given_up_first = inr (no_errors plain_begun.es plain_begun.spelled refl, (refl, [], full_spelled))

pub given_up_verdict : IsVerdict at_client read_given_up (Err (Aborted Local 3))
given_up_verdict = aborted at_client read_given_up Local 3 given_up_lawful (means_nothing at_client given_up (plain_terms at_client Get Plain) refl refl refl refl) given_up_first

pub given_up_again_verdict : IsVerdict at_client read_given_up_twice (Err (Aborted Local 3))
given_up_again_verdict = aborted at_client read_given_up_twice Local 3 given_up_again_lawful (means_nothing at_client given_up_again (plain_terms at_client Get Plain) refl refl refl refl) (inl (inl given_up_first))

-- ---- whole all the same

pub stopped_verdict : IsVerdict at_client stopped_at_the_end (Ok two_bytes)
stopped_verdict = accepted at_client two_bytes stopped_at_the_end stopped_shown

pub stopped_after_verdict : IsVerdict at_client stopped_after_the_end (Ok two_bytes)
stopped_after_verdict = accepted at_client two_bytes stopped_after_the_end stopped_after_shown

-- ---- unlawful

pub another_verdict : IsVerdict at_client (read_refused ++ says_forbidden ∷ []) (Err (Unlawful 3 Rule.AfterError))
another_verdict = refused_last at_client read_refused says_forbidden Rule.AfterError 3 refl refl another_refused

pub ack_verdict : IsVerdict at_client (read_given_up ++ acknowledges_hi ∷ []) (Err (Unlawful 4 Rule.AfterError))
ack_verdict = refused_last at_client read_given_up acknowledges_hi Rule.AfterError 4 refl refl ack_refused

pub late_verdict : IsVerdict at_client (before_late_answer ++ late_answer ∷ []) (Err (Unlawful 7 (Rule.Block EndRule.WindowOverrun)))
late_verdict = refused_last at_client before_late_answer late_answer (Rule.Block EndRule.WindowOverrun) 7 refl refl late_refused
