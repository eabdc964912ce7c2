-- The worked captures with strays.
use Rattle.std.proofs.Common.{◌≡◌, ℕ, ◌<◌, List, [], ◌∷◌, codes, reverse, inl, inr, refl, ap, arith}
use Rattle.tftp_packet.specs.{Message, Spells, Short}
use Rattle.tftp_packet.proofs.FaultOrder.{first_fault}
use Rattle.law_model.specs.Model.{Sent, Took, Req, Data, Ack, two_bytes, two_bytes_view, two_bytes_server_view}
use Rattle.law_model.proofs.ModelLemmas.Defaults.{default_blksize}
use Rattle.law_model.proofs.ModelLemmas.Worked.{two_bytes_is_view, two_bytes_complete, two_bytes_is_server_view, two_bytes_complete_at_server}
use Rattle.law_model.specs.{PortRule}
use Rattle.law_end.specs.{TransferIds, Shows, number_of, Broken, IsRefused, Rule}
use Rattle.law_end.proofs.Spelled.{spelled_once}
use Rattle.law_end.proofs.FirstBroken.OneMessage.{agreement_from}
use Rattle.tests_worked.specs.{at_client, at_server, server_host, asks_for_a, brings_hi, comes_astray, is_asked_for_a, sends_hi, is_told, error, only_is_asked, only_asked, before_answering, comes_from_elsewhere, acknowledges_stray, strays_to_server, server_answers_stray, read_with_a_stray_at_server, answers_by_error_4, after_a_stray_at_server, server_answers_by_error_4, read_from_first_port, comes_to_service}
use Rattle.law_model.proofs.RulesLemmas.EndRules.{from_18}
use Rattle.tests_worked.proofs.Spelled.{request_spelled, hi_spelled, ack_spelled, unknown_id_spelled}
use Rattle.tests_worked.proofs.Payloads.{Spelled, error_spells}
use Rattle.tests_worked.proofs.Dressed.{main, strays as strayed, answers_stray, dressed_as}
use Rattle.tests_worked.proofs.ReadShown.{two_shown}
use Rattle.tests_worked.proofs.Chains.{after, refused_next}
use Rattle.tests_worked.proofs.Bases.{plain_asked}
use Rattle.tests_worked.proofs.Hosts.{served}
use Rattle.tests_worked.proofs.ReadVariants.{server_ids}
use Rattle.tests_worked.proofs.RefusedMore.{astray}
use Rattle.tests_worked.proofs.Malformed.{under_malformed}

-- ---- what is shown

pub stray_at_server_is_shown : Shows at_server two_bytes read_with_a_stray_at_server
stray_at_server_is_shown = two_shown at_server two_bytes_server_view read_with_a_stray_at_server two_bytes_is_server_view two_bytes_complete_at_server
    (dressed_as at_server two_bytes two_bytes.file 512 server_ids (main (is_told, Took (Ack 1)) ∷ answers_stray server_answers_stray ∷ strayed strays_to_server ∷ main (sends_hi, Sent (Data 1)) ∷ main (is_asked_for_a, Took Req) ∷ [])
    two_bytes_server_view read_with_a_stray_at_server (default_blksize two_bytes refl) refl (ack_spelled, (([], unknown_id_spelled), (tt, (hi_spelled, (request_spelled, tt))))) refl refl)

-- the port that answered first
abbrev first_ids : TransferIds
first_ids = record { own = 40000; peer = record { host = server_host; port = 42000 }; asked = server_host }

pub first_port_is_shown : Shows at_client two_bytes read_from_first_port
first_port_is_shown = two_shown at_client two_bytes_view read_from_first_port two_bytes_is_view two_bytes_complete
    (dressed_as at_client two_bytes two_bytes.file 512 first_ids (main (acknowledges_stray, Sent (Ack 1)) ∷ strayed brings_hi ∷ main (comes_from_elsewhere, Took (Data 1)) ∷ main (asks_for_a, Sent Req) ∷ [])
    two_bytes_view read_from_first_port (default_blksize two_bytes refl) refl (ack_spelled, (tt, (hi_spelled, (request_spelled, tt)))) refl refl)

-- ---- what answers no stray

error_4 : Spells (error 4 []) (Message.Error 4 [])
error_4 = error_spells 4 [] refl refl

-- the code of an ERROR
abbrev code_of : Message → ℕ
code_of (Message.Error code text) = code
code_of _ = 0

not_unknown : (text : List ℕ) → Spells (error 4 []) (Message.Error 5 text) → ⊥
not_unknown text s = let is : 4 ≡ 5 = ap code_of (spelled_once (error 4 []) (Message.Error 4 []) (Message.Error 5 text) error_4 s) in omega (arith, is)

pub error_4_refused : IsRefused at_client (reverse before_answering) answers_by_error_4 (Rule.Port PortRule.BadAnswer)
error_4_refused = refused_next at_client astray (answers_by_error_4, Message.Error 4 []) (Rule.Port PortRule.BadAnswer) error_4 refl (inr (refl, λ s. not_unknown s.0 s.1))

abbrev sends : Spelled
sends = (sends_hi, Message.Data 1 (codes "hi"))

abbrev strays : Spelled
strays = (strays_to_server, Message.Ack 1)

pub server_error_4_refused : IsRefused at_server (reverse after_a_stray_at_server) server_answers_by_error_4 (Rule.Port PortRule.BadAnswer)
server_error_4_refused = refused_next at_server (after at_server served (strays ∷ sends ∷ []) refl) (server_answers_by_error_4, Message.Error 4 []) (Rule.Port PortRule.BadAnswer) error_4 refl (inr (refl, λ s. not_unknown s.0 s.1))

-- ---- before the server has answered

pub first_is_read : IsRefused at_client (reverse only_asked) comes_astray (Rule.Malformed Short)
first_is_read = record {
  lawful = plain_asked.lawful;
  broken = (
    (refl, first_fault comes_astray.payload Short (inl (omega arith))),
    under_malformed at_client (reverse only_asked) comes_astray refl (λ none. let e = none.0 in cc),
  );
}

none_is_earlier : (rule : Rule) → number_of rule < 1 → Broken at_server (reverse only_is_asked) comes_to_service rule → ⊥
none_is_earlier (Rule.Port PortRule.Foreign) low b = omega arith
none_is_earlier (Rule.Agreement broken) low b = omega (arith, low, agreement_from broken)
none_is_earlier (Rule.Block e) low b = omega (arith, low, from_18 e)
none_is_earlier _ low b = omega arith

pub other_port_refused : IsRefused at_server (reverse only_is_asked) comes_to_service (Rule.Port PortRule.Foreign)
other_port_refused = record { lawful = served.lawful; broken = (refl, none_is_earlier) }
