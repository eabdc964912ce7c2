-- The worked read where several hosts have the same ports.
use Rattle.std.proofs.Common.{[], ◌∷◌, codes, reverse, inl, refl}
use Rattle.tftp_packet.specs.{Message}
use Rattle.law_model.specs.Model.{request_of, Sent, Took, Req, Data, Ack, two_bytes, two_bytes_view}
use Rattle.law_model.proofs.ModelLemmas.Defaults.{default_blksize}
use Rattle.law_model.proofs.ModelLemmas.Worked.{two_bytes_is_view, two_bytes_complete}
use Rattle.law_model.specs.{PortRule}
use Rattle.law_end.specs.{TransferIds, Shows, IsRefused, Rule}
use Rattle.tests_worked.specs.{at_client, at_server, server_host, asks_for_a, brings_hi, acknowledges_hi, is_asked_for_a, third_host, comes_from_third_host, answers_third_host, read_with_a_third_host, after_third_host, acknowledges_third_host, read_from_third_host, answered_from_third_host, asks_third_host, third_host_asks, only_is_asked, only_asked}
use Rattle.tests_worked.proofs.Spelled.{request_spelled, hi_spelled, ack_spelled, unknown_id_spelled}
use Rattle.tests_worked.proofs.Payloads.{Spelled}
use Rattle.tests_worked.proofs.Dressed.{main, strays, answers_stray, dressed_as, dressed_by}
use Rattle.tests_worked.proofs.Chains.{Start, request_alone, after, refused_next}
use Rattle.tests_worked.proofs.Bases.{plain_asks, plain_asked, plain_begun}
use Rattle.tests_worked.proofs.ReadShown.{ids, two_shown}

-- ---- a stray from the server's port at a third host

pub third_is_shown : Shows at_client two_bytes read_with_a_third_host
third_is_shown = two_shown at_client two_bytes_view read_with_a_third_host two_bytes_is_view two_bytes_complete
    (dressed_as at_client two_bytes two_bytes.file 512 ids (main (acknowledges_hi, Sent (Ack 1)) ∷ answers_stray answers_third_host ∷ strays comes_from_third_host ∷ main (brings_hi, Took (Data 1)) ∷ main (asks_for_a, Sent Req) ∷ [])
    two_bytes_view read_with_a_third_host (default_blksize two_bytes refl) refl (ack_spelled, (([], unknown_id_spelled), (tt, (hi_spelled, (request_spelled, tt))))) refl refl)

-- ---- a server that answers from another host than the one asked

abbrev elsewhere_ids : TransferIds
elsewhere_ids = record { own = 40000; peer = record { host = third_host; port = 41000 }; asked = server_host }

abbrev third : Spelled
third = (comes_from_third_host, Message.Data 1 (codes "hi"))

pub from_third_is_shown : Shows at_client two_bytes read_from_third_host
from_third_is_shown = two_shown at_client two_bytes_view read_from_third_host two_bytes_is_view two_bytes_complete
    (dressed_by at_client two_bytes two_bytes.file 512 elsewhere_ids ((acknowledges_third_host, Message.Ack 1) ∷ third ∷ []) (plain_asks ∷ []) two_bytes_view read_from_third_host (default_blksize two_bytes refl) refl (request_spelled, tt) refl refl)

-- ---- what breaks a rule

abbrev request : Message
request = Message.Request (request_of two_bytes)

pub third_refused : IsRefused at_client (reverse after_third_host) acknowledges_third_host (Rule.Port PortRule.BadAnswer)
third_refused = refused_next at_client (after at_client plain_begun (third ∷ []) refl) (acknowledges_third_host, Message.Ack 1) (Rule.Port PortRule.BadAnswer) ack_spelled refl (inl refl)

pub asked_refused : IsRefused at_client (reverse answered_from_third_host) acknowledges_hi (Rule.Port PortRule.Wrong)
asked_refused = refused_next at_client (after at_client plain_asked (third ∷ []) refl) (acknowledges_hi, Message.Ack 1) (Rule.Port PortRule.Wrong) ack_spelled refl refl

pub other_request_refused : IsRefused at_client (reverse only_asked) asks_third_host (Rule.Port PortRule.Wrong)
other_request_refused = refused_next at_client plain_asked (asks_third_host, request) (Rule.Port PortRule.Wrong) request_spelled refl refl

abbrev pub served : Start at_server
served = request_alone at_server (is_asked_for_a, request) request_spelled refl

pub other_client_refused : IsRefused at_server (reverse only_is_asked) third_host_asks (Rule.Port PortRule.Foreign)
other_client_refused = refused_next at_server served (third_host_asks, request) (Rule.Port PortRule.Foreign) request_spelled refl refl
