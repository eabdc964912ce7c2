-- Recordings that meet the premises; and for each premise one that meets the others, in which a lawful end is accused. Times are
-- in seconds, the newest datagram is first.
use Rattle.std.specs.Prelude.{◌≡◌, ℕ, ◌*◌, ◌&&◌, ◌||◌, nat_le, Bool, true, false, List, [], ◌∷◌, ◌++◌, codes, map, max, Some}
use Rattle.std.specs.Str.{bytes_eq}
use Rattle.law_end.specs.{IsRefused, Rule}
use Rattle.audit_flows.specs.Lines.{Recorded, Placed, clock, transfer_of, bytes_of, version_of}
use Rattle.audit_flows.specs.{Address, Endpoint, Transfer}
use Rattle.audit_flows.specs.Transfers.{ack_of, client, data_of, service, client_view, is_beside, place_of, placed}
use Rattle.audit_flows.specs.Transfers.Worked.{at, error_of, next_server, other_client, passes, requests, second, server, stranger}
use Rattle.audit_spared.specs.Spared.Seen.{as_seen_by, at_client_of, is_with}
use Rattle.audit_spared.specs.Spared.Spared.{needs_doubt}
use Rattle.audit_spared.specs.Spared.Served.{at_server_of, seen_at_server, server_saw, transfer_beside}

-- ---- names

-- a host by its version and its address
abbrev pub own_name : Address → List ℕ
own_name a = version_of a ∷ bytes_of a

-- all hosts have one name
abbrev pub one_name : Address → List ℕ
one_name a = []

-- ---- who is accused

-- when a refusal is doubtful, in all datagrams, at one and after those before it
abbrev pub Doubt : Type 0
Doubt = ℕ → List Placed → Placed → List Placed → Bool

-- In a recording that ends so, the newest datagram is refused at its client without a doubt.
abbrev pub newest : Recorded → List Recorded → Placed
newest d ds = record { datagram = d; moment = max d.time (clock (placed [] ds)); place = place_of [] (placed [] ds) (max d.time (clock (placed [] ds))) d }

pub record IsAccusedAtClient (write : Address → List ℕ) (doubt : Doubt) (d : Recorded) (ds : List Recorded) : Type 0 where
  pub transfer : Transfer
  pub at : transfer_of (newest d ds).place ≡ Some transfer
  pub rule : Rule
  pub refused : IsRefused (at_client_of transfer.asked.port) (map (λ q. as_seen_by write transfer.client q.datagram) (client_view transfer.number (placed [] ds))) (as_seen_by write transfer.client d) rule
  pub doubtless : doubt transfer.number (placed [] (d ∷ ds)) (newest d ds) (placed [] ds) ≡ false

-- the same at its server
pub record IsAccusedAtServer (write : Address → List ℕ) (doubt : Doubt) (d : Recorded) (ds : List Recorded) : Type 0 where
  pub transfer : Transfer
  pub at : transfer_beside (newest d ds).place ≡ Some transfer
  pub rule : Rule
  pub refused : IsRefused (at_server_of transfer.asked.port) (server_saw write transfer (placed [] (d ∷ ds)) (placed [] ds)) (seen_at_server write transfer (placed [] (d ∷ ds)) (newest d ds)) rule
  pub doubtless : doubt transfer.number (placed [] (d ∷ ds)) (newest d ds) (placed [] ds) ≡ false

-- the four doubts of a server
abbrev pub needs_doubt_there : Doubt
needs_doubt_there n placed p older = needs_doubt n placed p older || is_beside p

-- ---- two captures, at a client

abbrev pub one_client : List Endpoint
one_client = client ∷ []

-- A read of one byte: the client asks twice, and a stranger sends it a block and is told so.
abbrev pub first_capture : List Recorded
first_capture =
    passes 5 client server (ack_of 1)
    ∷ passes 4 client stranger (error_of 5)
    ∷ passes 3 stranger client (data_of 7)
    ∷ passes 2 server client (data_of 1)
    ∷ requests 1 client service (codes "f")
    ∷ requests 0 client service (codes "f")
    ∷ []

-- another read from the same port of the client, of another of the server
abbrev pub second_capture : List Recorded
second_capture =
    passes 9 client next_server (ack_of 1)
    ∷ passes 8 next_server client (data_of 1)
    ∷ requests 7 client service (codes "g")
    ∷ []

-- what another client does between, who breaks the law
abbrev pub another_client : List Recorded
another_client = passes 6 other_client server (ack_of 9) ∷ requests 6 other_client service (codes "f") ∷ []

-- the one, that, and the other
abbrev pub two_captures : List Recorded
two_captures = second_capture ++ another_client ++ first_capture

-- ---- a stray before the answer

-- In the second capture a block of the first one's server comes late, before the answer, and is told so.
abbrev pub is_late_block : Recorded → Bool
is_late_block d = nat_le (7 * second) d.time && is_with server d

abbrev pub late_block_first : List Recorded
late_block_first =
    passes 8 next_server client (data_of 1)
    ∷ passes 8 client server (error_of 5)
    ∷ passes 7 server client (data_of 1)
    ∷ requests 7 client service (codes "g")
    ∷ first_capture

-- and a block of a transfer of before the recording began
abbrev pub is_of_before : Recorded → Bool
is_of_before d = bytes_eq d.payload (data_of 3)

abbrev pub begun_within : List Recorded
begun_within = late_block_first ++ passes 0 next_server client (data_of 3) ∷ []

abbrev pub ack_of_answer : Recorded
ack_of_answer = passes 9 client next_server (ack_of 1)

-- ---- two captures, at a server

abbrev pub first_served : List Recorded
first_served =
    passes 5 client server (ack_of 1)
    ∷ passes 2 server client (data_of 1)
    ∷ requests 1 client service (codes "f")
    ∷ requests 0 client service (codes "f")
    ∷ []

-- from the same port of the server
abbrev pub second_served : List Recorded
second_served =
    passes 9 client server (ack_of 1)
    ∷ passes 8 server client (data_of 1)
    ∷ requests 7 client service (codes "g")
    ∷ []

-- the same two, and a stranger sends the server a block and is told so; and the other client
abbrev pub two_served : List Recorded
two_served =
    second_served
    ++ another_client
    ++ passes 5 client server (ack_of 1)
    ∷ passes 4 server stranger (error_of 5)
    ∷ passes 3 stranger server (data_of 7)
    ∷ passes 2 server client (data_of 1)
    ∷ requests 1 client service (codes "f")
    ∷ requests 0 client service (codes "f")
    ∷ []

-- ---- a premise is not met

-- The client asks again where the block came from.
abbrev pub block_came : List Recorded
block_came = passes 1 server client (data_of 1) ∷ requests 0 client service (codes "f") ∷ []

abbrev pub asks_elsewhere : Recorded
asks_elsewhere = requests 2 client server (codes "f")

-- The ACK of a block that came before the client asked again.
abbrev pub late_ack : Recorded
late_ack = passes 602 client server (ack_of 1)

abbrev pub ack_after_silence : Recorded
ack_after_silence = passes 402 client server (ack_of 1)

abbrev pub ack_of_block : Recorded
ack_of_block = passes 3 client server (ack_of 1)

-- The client asks again after the block came, and what stands before is not recorded.
abbrev pub asked_again_only : List Recorded
asked_again_only = requests 2 client service (codes "f") ∷ []

-- It asks again 400 s after the block came.
abbrev pub silent_capture : List Recorded
silent_capture = requests 401 client service (codes "f") ∷ passes 1 server client (data_of 1) ∷ requests 0 client service (codes "f") ∷ []

-- In the meantime another asks, and a time goes back.
abbrev pub two_clients : List Endpoint
two_clients = client ∷ other_client ∷ []

abbrev pub back_in_time : List Recorded
back_in_time =
    requests 601 client service (codes "f")
    ∷ passes 301 stranger client (63 ∷ [])
    ∷ requests 302 other_client service (codes "f")
    ∷ passes 1 server client (data_of 1)
    ∷ requests 0 client service (codes "f")
    ∷ []

-- The same at the server's host, where the block comes twice.
abbrev pub back_in_time_there : List Recorded
back_in_time_there =
    requests 601 client service (codes "f")
    ∷ passes 301 server client (data_of 1)
    ∷ requests 302 other_client service (codes "f")
    ∷ passes 1 server client (data_of 1)
    ∷ requests 0 client service (codes "f")
    ∷ []

-- Where the server sends from, one had asked the client's host.
abbrev pub served_by_asker : List Recorded
served_by_asker = passes 2 server client (data_of 1) ∷ requests 1 client service (codes "f") ∷ requests 0 server (at 7 69) (codes "f") ∷ []

-- The client has the service port, and a stray asks it from the server's host.
abbrev pub service_client : Endpoint
service_client = at 7 69

abbrev pub asked_by_stray : List Recorded
asked_by_stray = requests 2 (at 1 5000) service_client (codes "f") ∷ passes 1 server service_client (data_of 1) ∷ requests 0 service_client service (codes "f") ∷ []

abbrev pub stray_is_told : Recorded
stray_is_told = passes 3 service_client (at 1 5000) (error_of 5)

-- The client asks a second host by the same name, and goes on with that.
abbrev pub asks_two_hosts : List Recorded
asks_two_hosts = requests 2 client (at 2 69) (codes "f") ∷ passes 1 server client (data_of 1) ∷ requests 0 client service (codes "f") ∷ []

-- The first host had refused, from another port.
abbrev pub refused_elsewhere : List Recorded
refused_elsewhere =
    requests 2 client (at 2 69) (codes "f")
    ∷ passes 2 next_server client (error_of 1)
    ∷ passes 1 server client (data_of 1)
    ∷ requests 0 client service (codes "f")
    ∷ []

abbrev pub to_second_host : Recorded
to_second_host = passes 3 client (at 2 41000) (ack_of 1)

-- Who has the client's name and port tells the server an ERROR, and then the client tells it another.
abbrev pub told_by_namesake : List Recorded
told_by_namesake = passes 2 (at 9 40000) server (error_of 1) ∷ passes 1 server client (data_of 1) ∷ requests 0 client service (codes "f") ∷ []

abbrev pub other_error : Recorded
other_error = passes 3 client server (error_of 2)

-- The client's request comes again behind its ACK; the server answers it by an ERROR, and the ACK comes again too.
abbrev pub asked_late : List Recorded
asked_late =
    passes 4 server client (error_of 1)
    ∷ requests 3 client service (codes "f")
    ∷ passes 2 client server (ack_of 1)
    ∷ passes 1 server client (data_of 1)
    ∷ requests 0 client service (codes "f")
    ∷ []

abbrev pub ack_again : Recorded
ack_again = passes 5 client server (ack_of 1)

-- ---- a request to write comes late

abbrev pub write_of : List ℕ → List ℕ
write_of name = 0 ∷ 2 ∷ name ++ 0 ∷ codes "octet" ++ 0 ∷ []

abbrev pub asks_to_write : ℕ → Recorded
asks_to_write seconds = record { time = seconds * second; source = client; target = service; payload = write_of (codes "f"); is_spelled = true }

-- The client's request comes again behind its block; the server answers it again, and the client gives up.
abbrev pub written_late : List Recorded
written_late =
    passes 6 client server (error_of 1)
    ∷ passes 5 server client (ack_of 0)
    ∷ asks_to_write 4
    ∷ passes 3 server client (ack_of 1)
    ∷ passes 2 client server (data_of 1)
    ∷ passes 1 server client (ack_of 0)
    ∷ asks_to_write 0
    ∷ []

-- the server's ACK of the block comes again too
abbrev pub block_acked_again : Recorded
block_acked_again = passes 7 server client (ack_of 1)
