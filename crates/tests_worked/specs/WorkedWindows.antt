-- Captures with agreed options, and captures that break a rule.
use Rattle.std.specs.Prelude.{ℕ, List, [], ◌∷◌, ◌++◌, codes, None}
use Rattle.tftp_packet.specs.{Pair, strings, pair_strings, Server}
use Rattle.tftp_packet.specs.Hosts.{Datagram, Header}
use Rattle.tftp_packet.specs.{In, Out}
use Rattle.tests_worked.specs.Worked.{server_host, client_host}

-- payloads: a request by its name, mode and options, one for "a" in mode "octet", an OACK, a block and an ACK with a
-- number of one byte (RFC 1350, section 5; RFC 2347)
abbrev pub request_for : List ℕ → List ℕ → ℕ → List Pair → List ℕ
request_for name mode opcode pairs = 0 ∷ opcode ∷ strings (name ∷ mode ∷ pair_strings pairs)

abbrev pub request : ℕ → List Pair → List ℕ
request opcode pairs = request_for (codes "a") (codes "octet") opcode pairs

abbrev pub oack : List Pair → List ℕ
oack pairs = 0 ∷ 6 ∷ strings (pair_strings pairs)

abbrev pub block : ℕ → List ℕ → List ℕ
block k bytes = 0 ∷ 3 ∷ 0 ∷ k ∷ bytes

abbrev pub ack : ℕ → List ℕ
ack j = 0 ∷ 4 ∷ 0 ∷ j ∷ []

abbrev pub by_eight : List Pair
by_eight = (codes "blksize", codes "8") ∷ []

abbrev pub by_four : List Pair
by_four = (codes "blksize", codes "8") ∷ (codes "windowsize", codes "4") ∷ []

abbrev pub by_two : List Pair
by_two = (codes "blksize", codes "8") ∷ (codes "windowsize", codes "2") ∷ []

-- at the client, whose port is 40000: to the service port, to the server's port, and from there
abbrev pub asks : List ℕ → Datagram
asks payload = record { dir = Out; local = 40000; host = server_host; remote = 69; payload = payload }

abbrev pub goes : List ℕ → Datagram
goes payload = record { dir = Out; local = 40000; host = server_host; remote = 41000; payload = payload }

abbrev pub comes : List ℕ → Datagram
comes payload = record { dir = In; local = 40000; host = server_host; remote = 41000; payload = payload }

-- seven datagrams of a read in a window of four blocks, of which block 3 is late; and block 7, which no ACK allows: 7 is
-- more than 2 + 4
abbrev pub before_overrun : List Datagram
before_overrun =
    asks (request 1 by_four)
    ∷ comes (oack by_four)
    ∷ goes (ack 0)
    ∷ comes (block 1 (codes "11111111"))
    ∷ comes (block 2 (codes "22222222"))
    ∷ comes (block 4 (codes "44444444"))
    ∷ goes (ack 2)
    ∷ []

abbrev pub block_seven : Datagram
block_seven = comes (block 7 (codes "77777777"))

-- the whole read: block 3 comes late, and block 4 twice
abbrev pub window_out_of_order : List Datagram
window_out_of_order =
    before_overrun
    ++ comes (block 3 (codes "33333333"))
    ∷ comes (block 4 (codes "44444444"))
    ∷ comes (block 5 (codes "55555555"))
    ∷ comes (block 6 (codes "666"))
    ∷ goes (ack 6)
    ∷ []

-- the same read as its server sees it
abbrev pub at_service : Header
at_service = record { named = Server; service = 69; rollover = None }

abbrev pub answers : List ℕ → Datagram
answers payload = record { dir = Out; local = 41000; host = client_host; remote = 40000; payload = payload }

abbrev pub hears : List ℕ → Datagram
hears payload = record { dir = In; local = 41000; host = client_host; remote = 40000; payload = payload }

abbrev pub is_asked : List ℕ → Datagram
is_asked payload = record { dir = In; local = 69; host = client_host; remote = 40000; payload = payload }

abbrev pub window_at_server : List Datagram
window_at_server =
    is_asked (request 1 by_four)
    ∷ answers (oack by_four)
    ∷ hears (ack 0)
    ∷ answers (block 1 (codes "11111111"))
    ∷ answers (block 2 (codes "22222222"))
    ∷ answers (block 3 (codes "33333333"))
    ∷ answers (block 4 (codes "44444444"))
    ∷ hears (ack 2)
    ∷ answers (block 5 (codes "55555555"))
    ∷ answers (block 6 (codes "666"))
    ∷ hears (ack 6)
    ∷ []

-- a write in lock step: DATA 1 goes out again though its ACK has come, and may not once DATA 2 has gone out
abbrev pub before_going_back : List Datagram
before_going_back =
    asks (request 2 by_eight)
    ∷ comes (oack by_eight)
    ∷ goes (block 1 (codes "11111111"))
    ∷ comes (ack 1)
    ∷ goes (block 1 (codes "11111111"))
    ∷ goes (block 2 (codes "22"))
    ∷ []

abbrev pub goes_back : Datagram
goes_back = goes (block 1 (codes "11111111"))

abbrev pub block_sent_again : List Datagram
block_sent_again = before_going_back ++ comes (ack 2) ∷ []

-- a write in a window of four: ACK 0 says that the first block was lost, and both go out again
abbrev pub window_sent_again : List Datagram
window_sent_again =
    asks (request 2 by_four)
    ∷ comes (oack by_four)
    ∷ goes (block 1 (codes "11111111"))
    ∷ goes (block 2 (codes "22"))
    ∷ comes (ack 0)
    ∷ goes (block 1 (codes "11111111"))
    ∷ goes (block 2 (codes "22"))
    ∷ comes (ack 2)
    ∷ []

-- a write in a window of two that begins with block 2
abbrev pub before_skip : List Datagram
before_skip = asks (request 2 by_two) ∷ comes (oack by_two) ∷ []

abbrev pub block_two : Datagram
block_two = goes (block 2 (codes "22222222"))
