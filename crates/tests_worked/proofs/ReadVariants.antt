-- The worked read with a stray between, and as its server sees it.
use Rattle.std.proofs.Common.{[], ◌∷◌, codes, refl}
use Rattle.tftp_packet.specs.{Message}
use Rattle.law_model.specs.Model.{request_of, Sent, Took, Req, Data, Ack, two_bytes, two_bytes_view, two_bytes_server_view}
use Rattle.law_model.proofs.ModelLemmas.Defaults.{default_blksize}
use Rattle.law_model.proofs.ModelLemmas.Worked.{two_bytes_is_view, two_bytes_complete, two_bytes_is_server_view, two_bytes_complete_at_server}
use Rattle.law_end.specs.{TransferIds, Shows}
use Rattle.tests_worked.specs.{at_client, at_server, client_host, asks_for_a, brings_hi, acknowledges_hi, comes_astray, answers_stray, read_with_a_stray, is_asked_for_a, sends_hi, is_told, read_at_server}
use Rattle.tests_worked.proofs.Dressed.{main, strays, answers_stray as answers, dressed_as, dressed_by}
use Rattle.tests_worked.proofs.ReadShown.{ids, two_shown}
use Rattle.tests_worked.proofs.Spelled.{request_spelled, hi_spelled, ack_spelled, unknown_id_spelled}

pub stray_is_shown : Shows at_client two_bytes read_with_a_stray
stray_is_shown = two_shown at_client two_bytes_view read_with_a_stray two_bytes_is_view two_bytes_complete
    (dressed_as at_client two_bytes two_bytes.file 512 ids (main (acknowledges_hi, Sent (Ack 1)) ∷ answers answers_stray ∷ strays comes_astray ∷ main (brings_hi, Took (Data 1)) ∷ main (asks_for_a, Sent Req) ∷ []) two_bytes_view read_with_a_stray
    (default_blksize two_bytes refl) refl (ack_spelled, (([], unknown_id_spelled), (tt, (hi_spelled, (request_spelled, tt))))) refl refl)

abbrev pub server_ids : TransferIds
server_ids = record { own = 3000; peer = record { host = client_host; port = 2000 }; asked = [] }

pub server_is_shown : Shows at_server two_bytes read_at_server
server_is_shown = two_shown at_server two_bytes_server_view read_at_server two_bytes_is_server_view two_bytes_complete_at_server
    (dressed_by at_server two_bytes two_bytes.file 512 server_ids ((is_told, Message.Ack 1) ∷ (sends_hi, Message.Data 1 (codes "hi")) ∷ []) ((is_asked_for_a, Message.Request (request_of two_bytes)) ∷ []) two_bytes_server_view read_at_server
    (default_blksize two_bytes refl) refl (request_spelled, tt) refl refl)
