-- Transfers in which an ERROR is sent break no rule, and what follows one breaks one.
use Rattle.std.proofs.Common.{◌≡◌, ℕ, ◌≤◌, true, [], ◌∷◌, reverse, codes, inl, inr, refl, sym, subst, ap, ◌∙◌, arith}
use Rattle.std.proofs.lemmas.Bool.{leb-true}
use Rattle.tftp_packet.specs.{Message, no_options, Spells, Put}
use Rattle.tftp_packet.specs.Hosts.{Header}
use Rattle.tftp_packet.specs.{Out}
use Rattle.law_model.specs.Model.{request_of, two_bytes}
use Rattle.law_model.specs.Rules.{transfer_of, Passed, IsAcked, usable}
use Rattle.law_model.specs.{EndRule, PortRule}
use Rattle.law_end.specs.{Rule, OneEnded, IsRefused}
use Rattle.tests_worked.specs.{at_client, acknowledges_hi, request, at_service, is_asked, says_not_found, says_forbidden, stops, gives_up, read_refused, read_refused_twice, read_given_up, read_given_up_twice, stopped_at_the_end, stopped_after_the_end, block_after_error, before_late_answer, late_answer, only_offered, stops_unanswered}
use Rattle.tests_worked.proofs.Spelled.{ack_spelled}
use Rattle.tests_worked.proofs.Payloads.{Spelled, datagrams, request_spells, error_spells}
use Rattle.tests_worked.proofs.Passing.{main_of, main_is, main_spelled, used_of, used_is, all_used, every, every_in}
use Rattle.tests_worked.proofs.Chains.{Start, request_alone, after, breaks_so, refused_next, refused_end}
use Rattle.tests_worked.proofs.Exchanges.{came, stop, stopped_news, after_news}
use Rattle.tests_worked.proofs.Bases.{asks_for, plain_hi, plain_asked, plain_begun, read_by_eight}
use Rattle.tests_worked.proofs.Refused.{ack_up_to}

-- ---- what the ERRORs spell

pub not_found_spelled : Spells says_not_found.payload (Message.Error 1 (codes "File not found"))
not_found_spelled = error_spells 1 (codes "File not found") refl refl

pub forbidden_spelled : Spells says_forbidden.payload (Message.Error 2 [])
forbidden_spelled = error_spells 2 [] refl refl

pub stop_spelled : Spells stops.payload (Message.Error 0 [])
stop_spelled = error_spells 0 [] refl refl

pub full_spelled : Spells gives_up.payload (Message.Error 3 [])
full_spelled = error_spells 3 [] refl refl

abbrev pub not_found : Spelled
not_found = (says_not_found, Message.Error 1 (codes "File not found"))

abbrev pub forbidden : Spelled
forbidden = (says_forbidden, Message.Error 2 [])

abbrev pub full : Spelled
full = (gives_up, Message.Error 3 [])

abbrev pub plain_ack : Spelled
plain_ack = (acknowledges_hi, Message.Ack 1)

-- ---- what breaks no rule

abbrev pub refused : Start at_client
refused = after at_client plain_asked (not_found ∷ []) refl

abbrev pub refused_again : Start at_client
refused_again = after at_client plain_asked (not_found ∷ not_found ∷ []) refl

abbrev pub given_up : Start at_client
given_up = after at_client plain_begun (full ∷ []) refl

abbrev pub given_up_again : Start at_client
given_up_again = after at_client plain_begun (full ∷ plain_hi ∷ full ∷ []) refl

pub refused_passes : OneEnded at_client (reverse read_refused)
refused_passes = refused.lawful

pub refused_again_passes : OneEnded at_client (reverse read_refused_twice)
refused_again_passes = refused_again.lawful

pub given_up_passes : OneEnded at_client (reverse read_given_up)
given_up_passes = given_up.lawful

pub given_up_again_passes : OneEnded at_client (reverse read_given_up_twice)
given_up_again_passes = given_up_again.lawful

pub stopped_passes : OneEnded at_client (reverse stopped_at_the_end)
stopped_passes = (after at_client plain_begun (plain_ack ∷ stop ∷ []) refl).lawful

pub stopped_after_passes : OneEnded at_client (reverse stopped_after_the_end)
stopped_after_passes = (after at_client plain_begun (stop ∷ plain_ack ∷ []) refl).lawful

abbrev pub after_error : Start at_client
after_error = after at_client read_by_eight after_news refl

pub after_passes : OneEnded at_client (reverse block_after_error)
after_passes = after_error.lawful

-- ---- what goes on

pub another_refused : IsRefused at_client (reverse read_refused) says_forbidden Rule.AfterError
another_refused = refused_next at_client refused forbidden Rule.AfterError forbidden_spelled refl
    (breaks_so at_client refused forbidden (request_of two_bytes) Rule.AfterError forbidden_spelled refl refl
    (inr (inl (refl, (Message.Error 1 (codes "File not found"), (1, codes "File not found", refl), inl (refl, not_found_spelled), (λ e. cc), inr (2, [], refl))))))

pub ack_refused : IsRefused at_client (reverse read_given_up) acknowledges_hi Rule.AfterError
ack_refused = refused_next at_client given_up plain_ack Rule.AfterError ack_spelled refl
    (breaks_so at_client given_up plain_ack (request_of two_bytes) Rule.AfterError ack_spelled refl refl
    (inr (inl (refl, (Message.Error 3 [], (3, [], refl), inl (refl, full_spelled), (λ e. cc), inl refl)))))

-- ---- a block that only an ACK allows which went out after the ERROR came in

most_used : (h : Header) (b : Start h) (n : ℕ) → every (ack_up_to n) (used_of (main_of h b.es)) ≡ true → (j : ℕ) → Passed Out (Message.Ack j) (usable (transfer_of h (datagrams b.es))) → j ≤ n
most_used h b n t j p =
    leb-true j n (every_in (ack_up_to n) (used_of (main_of h b.es)) Out (Message.Ack j) (all_used (main_of h b.es) (main_spelled h b.es b.spelled)) t
    (subst (Passed Out (Message.Ack j)) (sym (used_is (main_of h b.es) ∙ ap usable (main_is h b.es))) p))

abbrev stopped : Start at_client
stopped = after at_client read_by_eight stopped_news refl

late_acked : IsAcked (usable (transfer_of at_client (datagrams stopped.es))) 0
late_acked = record { member = inl refl; most = most_used at_client stopped 0 refl }

pub late_refused : IsRefused at_client (reverse before_late_answer) late_answer (Rule.Block EndRule.WindowOverrun)
late_refused = refused_end at_client stopped (came 2 (codes "89")) EndRule.WindowOverrun refl (0, inr (refl, late_acked), omega arith)

-- ---- at a server that has not answered

abbrev offered : Start at_service
offered = request_alone at_service (is_asked (request 2 []), Message.Request (asks_for Put no_options)) (request_spells Put [] no_options refl refl) refl

pub unanswered_refused : IsRefused at_service (reverse only_offered) stops_unanswered (Rule.Port PortRule.Wrong)
unanswered_refused = refused_next at_service offered (stops_unanswered, Message.Error 0 []) (Rule.Port PortRule.Wrong) stop_spelled refl refl
