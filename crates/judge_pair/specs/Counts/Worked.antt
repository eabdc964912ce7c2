-- DATA 1, of which the server sent two copies and the client took one, and ACK 1, which the client sent once and the server
-- took twice (RFC 1350, section 2). The newest first.
use Rattle.std.specs.Prelude.{ℕ, List, [], ◌∷◌}
use Rattle.tftp_packet.specs.Hosts.{Datagram}
use Rattle.tftp_packet.specs.{Dir, In, Out}

abbrev pub worked_datagram : Dir → List ℕ → Datagram
worked_datagram dir payload = record { dir = dir; local = 40000; host = 45 ∷ []; remote = 41000; payload = payload }

abbrev pub data_1 : List ℕ
data_1 = 0 ∷ 3 ∷ 0 ∷ 1 ∷ 104 ∷ []

abbrev pub ack_1 : List ℕ
ack_1 = 0 ∷ 4 ∷ 0 ∷ 1 ∷ []

abbrev pub at_the_client : List Datagram
at_the_client = worked_datagram Out ack_1 ∷ worked_datagram In data_1 ∷ []

abbrev pub at_the_server : List Datagram
at_the_server = worked_datagram In ack_1 ∷ worked_datagram In ack_1 ∷ worked_datagram Out data_1 ∷ worked_datagram Out data_1 ∷ []
