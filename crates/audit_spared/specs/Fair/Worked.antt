-- A read of one byte at its client, and a stray that is told so, the oldest first.
use Rattle.std.specs.Prelude.{ℕ, List, [], ◌∷◌, ◌++◌, codes, None}
use Rattle.tftp_packet.specs.Hosts.{Datagram, Header, PeerId}
use Rattle.tftp_packet.specs.{Dir, In, Out}
use Rattle.tftp_packet.specs.{Client}

abbrev pub at_client : Header
at_client = record { named = Client; service = 69; rollover = None }

abbrev pub stray : PeerId
stray = record { host = 192 ∷ 0 ∷ 2 ∷ 9 ∷ []; port = 41000 }

-- to or from a port of the host that is asked
abbrev pub passes : Dir → ℕ → List ℕ → Datagram
passes dir remote payload = record { dir = dir; local = 40000; host = 192 ∷ 0 ∷ 2 ∷ 1 ∷ []; remote = remote; payload = payload }

-- to or from the stray
abbrev pub strays : Dir → List ℕ → Datagram
strays dir payload = record { dir = dir; local = 40000; host = stray.host; remote = stray.port; payload = payload }

abbrev pub request : Datagram
request = passes Out 69 (0 ∷ 1 ∷ codes "f" ++ 0 ∷ codes "octet" ++ 0 ∷ [])

abbrev pub block_1 : Datagram
block_1 = passes In 41000 (0 ∷ 3 ∷ 0 ∷ 1 ∷ 5 ∷ [])

abbrev pub block_7 : Datagram
block_7 = strays In (0 ∷ 3 ∷ 0 ∷ 7 ∷ 9 ∷ [])

abbrev pub unknown_id : Datagram
unknown_id = strays Out (0 ∷ 5 ∷ 0 ∷ 5 ∷ 0 ∷ [])

abbrev pub ack_1 : Datagram
ack_1 = passes Out 41000 (0 ∷ 4 ∷ 0 ∷ 1 ∷ [])

abbrev pub with_stray : List Datagram
with_stray = request ∷ block_1 ∷ block_7 ∷ unknown_id ∷ ack_1 ∷ []

abbrev pub without_stray : List Datagram
without_stray = request ∷ block_1 ∷ ack_1 ∷ []
