-- Recordings, the newest datagram first, with times in seconds.
use Rattle.std.specs.Prelude.{ℕ, ◌*◌, ◌&&◌, not, Bool, true, false, List, [], ◌∷◌, ◌++◌, map, codes}
use Rattle.audit_flows.specs.Lines.{Recorded, Placed, comes_in, follows_request, follows_strays, follows_unanswered, goes_on_with_first, is_asked_again, is_late, may_be_earlier, speaks_first}
use Rattle.audit_flows.specs.declared.lines.endpoint.Address.TheVariants.{V4}
use Rattle.audit_flows.specs.declared.lines.endpoint.Endpoint.{Endpoint}
use Rattle.audit_flows.specs.declared.lines.place.Place.{Place}
use Rattle.audit_flows.specs.Transfers.Places.{placed}
use Rattle.audit_flows.specs.Transfers.Views.{client_view, server_view}
use Rattle.audit_flows.specs.Transfers.Doubts.{is_doubted, some_of}

abbrev pub at : ℕ → ℕ → Endpoint
at host port = record { address = V4 (192 ∷ 0 ∷ 2 ∷ host ∷ []); port = port }

-- a client, a server's service port and two of its others, another server, another client
abbrev pub client : Endpoint
client = at 7 40000

abbrev pub service : Endpoint
service = at 1 69

abbrev pub server : Endpoint
server = at 1 41000

abbrev pub next_server : Endpoint
next_server = at 1 41001

abbrev pub stranger : Endpoint
stranger = at 9 41000

abbrev pub other_client : Endpoint
other_client = at 8 40000

abbrev pub second : ℕ
second = 1000000000

abbrev pub passes : ℕ → Endpoint → Endpoint → List ℕ → Recorded
passes seconds source target payload = record { time = seconds * second; source = source; target = target; payload = payload; is_spelled = false }

-- a request for this file
abbrev pub read_of : List ℕ → List ℕ
read_of name = 0 ∷ 1 ∷ name ++ 0 ∷ codes "octet" ++ 0 ∷ []

abbrev pub requests : ℕ → Endpoint → Endpoint → List ℕ → Recorded
requests seconds source target name = record { time = seconds * second; source = source; target = target; payload = read_of name; is_spelled = true }

abbrev pub data_of : ℕ → List ℕ
data_of block = 0 ∷ 3 ∷ 0 ∷ block ∷ 5 ∷ []

abbrev pub ack_of : ℕ → List ℕ
ack_of block = 0 ∷ 4 ∷ 0 ∷ block ∷ []

abbrev pub error_of : ℕ → List ℕ
error_of code = 0 ∷ 5 ∷ 0 ∷ code ∷ 0 ∷ []

-- ---- what is read off: by datagram, the newest first, where it belongs and the number of the transfer

pub data Where : Type 0 where
  Opens : ℕ → Where
  Repeats : ℕ → Where
  Client : ℕ → Where
  Apart : Where
  Server : ℕ → Where
  Nowhere : Where

abbrev pub where_of : Placed → Where
where_of p = by p.place where
  by : Place → Where
  by (Place.Opens x) = Opens x.number
  by (Place.Repeats x) = Repeats x.number
  by (Place.Talks x) = Client x.number
  by (Place.Apart c) = Apart
  by (Place.Beside x) = Server x.number
  by Place.Nowhere = Nowhere

abbrev pub where_all : List Recorded → List Where
where_all recorded = map where_of (placed [] recorded)

-- A read of one byte; the client asks again before the answer is there, and a stranger sends it a block.
abbrev pub asked_twice : List Recorded
asked_twice =
    passes 4 client server (ack_of 1)
    ∷ passes 3 stranger client (data_of 7)
    ∷ passes 2 server client (data_of 1)
    ∷ requests 1 client service (codes "f")
    ∷ requests 0 client service (codes "f")
    ∷ []

-- The same, but the answer comes before it asks again, and the stranger after.
abbrev pub asked_after_answer : List Recorded
asked_after_answer =
    passes 4 client server (ack_of 1)
    ∷ passes 3 stranger client (data_of 7)
    ∷ requests 2 client service (codes "f")
    ∷ passes 1 server client (data_of 1)
    ∷ requests 0 client service (codes "f")
    ∷ []

-- Two files from one client's port; the server has one port, and is told of the last block of the first file late.
abbrev pub one_port : List Recorded
one_port =
    passes 5 client server (ack_of 1)
    ∷ passes 4 server client (data_of 1)
    ∷ requests 3 client service (codes "g")
    ∷ passes 2 client server (ack_of 1)
    ∷ passes 1 server client (data_of 1)
    ∷ requests 0 client service (codes "f")
    ∷ []

-- Two clients of equal ports read one file each; a third sends a block to the first one's server, which says so.
abbrev pub two_clients : List Recorded
two_clients =
    passes 7 server (at 6 40000) (error_of 5)
    ∷ passes 6 (at 6 40000) server (data_of 3)
    ∷ passes 5 other_client next_server (ack_of 1)
    ∷ passes 4 client server (ack_of 1)
    ∷ passes 3 next_server other_client (data_of 1)
    ∷ passes 2 server client (data_of 1)
    ∷ requests 1 other_client service (codes "f")
    ∷ requests 0 client service (codes "f")
    ∷ []

-- A machine is reset in the middle, and asks for the same from the same port; the old server's block comes late.
abbrev pub reset : List Recorded
reset =
    passes 5 client next_server (ack_of 1)
    ∷ passes 4 next_server client (data_of 1)
    ∷ passes 3 server client (data_of 2)
    ∷ requests 3 client service (codes "f")
    ∷ passes 2 client server (ack_of 1)
    ∷ passes 1 server client (data_of 1)
    ∷ requests 0 client service (codes "f")
    ∷ []

-- Silence of 300 s and more ends the line: what then comes is of none, and the same request opens a transfer.
abbrev pub silent : List Recorded
silent =
    requests 302 client service (codes "f")
    ∷ passes 301 server client (data_of 1)
    ∷ requests 0 client service (codes "f")
    ∷ []

-- Silence of 300 s does not.
abbrev pub patient : List Recorded
patient =
    passes 600 server client (data_of 1)
    ∷ requests 300 client service (codes "f")
    ∷ requests 0 client service (codes "f")
    ∷ []

-- A whole request makes its port a service port; later one that is not whole goes there too. The client sends another
-- host a datagram of another protocol.
abbrev pub other_service : List Recorded
other_service =
    passes 3 client (at 5 53) (1 ∷ 1 ∷ 1 ∷ 1 ∷ [])
    ∷ passes 2 other_client (at 1 1069) (0 ∷ 1 ∷ 102 ∷ [])
    ∷ passes 1 server client (data_of 1)
    ∷ requests 0 client (at 1 1069) (codes "f")
    ∷ []

-- What begins as a request goes to this port, and is not spelled whole.
abbrev pub begins_to_ask : ℕ → List Recorded
begins_to_ask port = passes 0 client (at 1 port) (0 ∷ 1 ∷ 102 ∷ []) ∷ []

-- The client asks for the same file once more, and spells the mode in capitals.
abbrev pub respelled : List Recorded
respelled =
    passes 3 client server (ack_of 1)
    ∷ passes 2 server client (data_of 1)
    ∷ record { time = second; source = client; target = service; payload = 0 ∷ 1 ∷ codes "f" ++ 0 ∷ codes "OCTET" ++ 0 ∷ []; is_spelled = true }
    ∷ requests 0 client service (codes "f")
    ∷ []

-- The client gives up a request for another, and the answer to the first comes late; it goes on with who answers the other.
abbrev pub late_answer : List Recorded
late_answer =
    passes 5 client next_server (ack_of 1)
    ∷ passes 4 next_server client (data_of 1)
    ∷ passes 3 client server (error_of 5)
    ∷ passes 2 server client (data_of 1)
    ∷ requests 1 client service (codes "g")
    ∷ requests 0 client service (codes "f")
    ∷ []

-- Something comes to the client, which then asks for another file.
abbrev pub asks_behind : Endpoint → List ℕ → List Recorded
asks_behind source payload =
    requests 2 client service (codes "g")
    ∷ passes 1 source client payload
    ∷ requests 0 client service (codes "f")
    ∷ []

-- Something comes to the client, which says this and asks for the same file.
abbrev pub asks_again_behind : List ℕ → List Recorded
asks_again_behind said =
    requests 3 client service (codes "f")
    ∷ passes 2 client server said
    ∷ passes 1 server client (data_of 1)
    ∷ requests 0 client service (codes "f")
    ∷ []

-- Once a block of the second file is there too, the client acknowledges that of the first, and then it asks for a third.
abbrev pub acked_late : List Recorded
acked_late =
    requests 7 client service (codes "h")
    ∷ passes 6 client server (ack_of 1)
    ∷ passes 5 next_server client (data_of 1)
    ∷ asks_behind server (data_of 1)

-- It goes on with the second file instead, once this came from where the first was asked, and asks for a third.
abbrev pub asks_on : List ℕ → List Recorded
asks_on payload =
    requests 7 client service (codes "h")
    ∷ passes 6 client next_server (ack_of 1)
    ∷ passes 5 next_server client (data_of 1)
    ∷ asks_behind server payload

-- Nothing came to the client, which sends an ACK all the same.
abbrev pub acked_unheard : List Recorded
acked_unheard =
    requests 2 client service (codes "g")
    ∷ passes 1 client server (ack_of 1)
    ∷ requests 0 client service (codes "f")
    ∷ []

-- A stranger sends the client a whole request, and is told so.
abbrev pub stray_request : List Recorded
stray_request =
    passes 3 client stranger (error_of 5)
    ∷ requests 2 stranger client (codes "h")
    ∷ passes 1 server client (data_of 1)
    ∷ requests 0 client service (codes "f")
    ∷ []

-- The recording begins in the middle of a transfer, behind which the client asks for another.
abbrev pub begun_late : List Recorded
begun_late =
    passes 2 server client (data_of 1)
    ∷ requests 1 client service (codes "g")
    ∷ passes 0 server client (data_of 9)
    ∷ []

-- The same, 301 s later.
abbrev pub begun_long_ago : List Recorded
begun_long_ago =
    requests 301 client service (codes "g")
    ∷ passes 0 server client (data_of 9)
    ∷ []

-- The client sends an ACK to the port that it had asked, and one to a port from which it had heard nothing.
abbrev pub wrong_ports : List Recorded
wrong_ports =
    passes 4 client next_server (ack_of 1)
    ∷ passes 3 client service (ack_of 1)
    ∷ passes 2 client server (ack_of 1)
    ∷ passes 1 server client (data_of 1)
    ∷ requests 0 client service (codes "f")
    ∷ []

-- The server of one port goes on with the second file, which has more blocks than the first.
abbrev pub one_port_on : List Recorded
one_port_on =
    passes 9 client server (data_of 1)
    ∷ passes 8 client server (ack_of 3)
    ∷ passes 7 server client (data_of 3)
    ∷ passes 6 server client (data_of 2)
    ∷ one_port

-- The client sends an ERROR before and after an ERROR 5.
abbrev pub errors : List Recorded
errors =
    passes 5 client server (error_of 0)
    ∷ passes 4 client server (error_of 5)
    ∷ passes 3 client server (error_of 0)
    ∷ passes 2 client server (ack_of 1)
    ∷ passes 1 server client (data_of 1)
    ∷ requests 0 client service (codes "f")
    ∷ []

-- The client tells ERROR 5 to a first answer, since it serves itself elsewhere; it asks again, which is not recorded, and goes
-- on with that server after all.
abbrev pub begun_anew : List Recorded
begun_anew =
    passes 6 client server (ack_of 2)
    ∷ passes 5 server client (data_of 2)
    ∷ passes 4 client server (ack_of 1)
    ∷ passes 3 server client (data_of 1)
    ∷ passes 2 client server (error_of 5)
    ∷ passes 1 server client (data_of 1)
    ∷ requests 0 client service (codes "f")
    ∷ []

-- It tells ERROR 5 to another than its server.
abbrev pub told_another : List Recorded
told_another =
    passes 4 client server (ack_of 1)
    ∷ passes 3 client next_server (error_of 5)
    ∷ passes 2 next_server client (data_of 1)
    ∷ passes 1 server client (data_of 1)
    ∷ requests 0 client service (codes "f")
    ∷ []

-- The client acknowledges an ERROR.
abbrev pub acked_error : ℕ → List Recorded
acked_error code =
    passes 2 client server (ack_of 1)
    ∷ passes 1 server client (error_of code)
    ∷ requests 0 client service (codes "f")
    ∷ []

-- The recording begins within a capture, whose client asks once more: the answer came before.
abbrev pub begun_within : ℕ → List Recorded
begun_within number =
    passes 1 client server (ack_of number)
    ∷ requests 0 client service (codes "f")
    ∷ []

-- OACK: blocks of 8 bytes
abbrev pub oack : List ℕ
oack = 0 ∷ 6 ∷ codes "blksize" ++ 0 ∷ codes "8" ++ 0 ∷ []

-- A client keeps its port and the server has one: what it agrees on with the second file may be late from the first, and block 7
-- is no block of that.
abbrev pub one_port_agrees : List Recorded
one_port_agrees =
    passes 6 server client (data_of 7)
    ∷ passes 5 client server (ack_of 0)
    ∷ passes 4 server client oack
    ∷ requests 3 client service (codes "g")
    ∷ passes 2 client server (ack_of 1)
    ∷ passes 1 server client (data_of 1)
    ∷ requests 0 client service (codes "f")
    ∷ []

-- One block of the second file is far on, and a window was asked for with the first.
abbrev pub one_port_window : List Recorded
one_port_window =
    passes 5 server client (data_of 7)
    ∷ passes 4 server client (data_of 1)
    ∷ requests 3 client service (codes "g")
    ∷ passes 2 client server (ack_of 1)
    ∷ passes 1 server client (data_of 1)
    ∷ record { time = 0; source = client; target = service; payload = read_of (codes "f") ++ codes "WindowSize" ++ 0 ∷ codes "4" ++ 0 ∷ []; is_spelled = true }
    ∷ []

-- With the server of one port the client writes a second file, whose answer a stranger's comes before: what the two say is told
-- of the first, a read. In the third that server's ACK 0 comes late.
abbrev pub strayed_write : List Recorded
strayed_write =
    passes 9 server client (ack_of 0)
    ∷ passes 8 client server (ack_of 1)
    ∷ passes 7 server client (data_of 1)
    ∷ requests 6 client service (codes "h")
    ∷ passes 5 server client (ack_of 0)
    ∷ passes 4 stranger client (data_of 7)
    ∷ record { time = 3 * second; source = client; target = service; payload = 0 ∷ 2 ∷ codes "g" ++ 0 ∷ codes "octet" ++ 0 ∷ []; is_spelled = true }
    ∷ passes 2 client server (ack_of 1)
    ∷ passes 1 server client (data_of 1)
    ∷ requests 0 client service (codes "f")
    ∷ []

-- ---- views and doubts, by the payloads

abbrev pub seen_by_client : ℕ → List Recorded → List (List ℕ)
seen_by_client n recorded = map (λ p. p.datagram.payload) (client_view n (placed [] recorded))

abbrev pub seen_by_server : ℕ → List Recorded → List (List ℕ)
seen_by_server n recorded = map (λ p. p.datagram.payload) (server_view n (placed [] recorded))

abbrev pub is_doubted_in : ℕ → List Recorded → Bool
is_doubted_in n recorded = is_doubted n (placed [] recorded)

abbrev pub is_asked_again_in : ℕ → List Recorded → Bool
is_asked_again_in n recorded = some_of n is_asked_again (placed [] recorded)

abbrev pub is_late_in : ℕ → List Recorded → Bool
is_late_in n recorded = some_of n is_late (placed [] recorded)

-- something came to its client, which did not go on with who sent it first
abbrev pub is_astray_in : ℕ → List Recorded → Bool
is_astray_in n recorded = some_of n comes_in (placed [] recorded) && not (some_of n goes_on_with_first (placed [] recorded))

abbrev pub follows_strays_in : ℕ → List Recorded → Bool
follows_strays_in n recorded = some_of n follows_strays (placed [] recorded)

abbrev pub follows_unanswered_in : ℕ → List Recorded → Bool
follows_unanswered_in n recorded = some_of n follows_unanswered (placed [] recorded)

abbrev pub follows_request_in : ℕ → List Recorded → Bool
follows_request_in n recorded = some_of n follows_request (placed [] recorded)

-- of each datagram whether a refusal of the transfer at it is doubtful
abbrev pub doubtful_by : (ℕ → List Placed → Placed → List Placed → Bool) → ℕ → List Placed → List Placed → List Bool
doubtful_by is_doubtful n whole [] = []
doubtful_by is_doubtful n whole (p ∷ older) = is_doubtful n whole p older ∷ doubtful_by is_doubtful n whole older

abbrev pub doubtful_in : (ℕ → List Placed → Placed → List Placed → Bool) → ℕ → List Recorded → List Bool
doubtful_in is_doubtful n recorded = doubtful_by is_doubtful n (placed [] recorded) (placed [] recorded)

-- of each datagram whether it may be late from an earlier transfer between the same two
abbrev pub earlier_words : List Placed → List Bool
earlier_words [] = []
earlier_words (p ∷ older) = may_be_earlier p older ∷ earlier_words older

-- of each datagram whether its client spoke first by it
abbrev pub first_words : List Placed → List Bool
first_words [] = []
first_words (p ∷ older) = speaks_first p older ∷ first_words older
