-- Small recordings that miss datagrams. Datagrams at an end have the oldest first, what an end did and what passed between the
-- ends the newest.
use Rattle.std.specs.Prelude.{false, List, [], ◌∷◌, Some, codes, None}
use Rattle.std.specs.FinMap as map
use Rattle.tftp_packet.specs.{Num, RequestParts, Get, Octet, Client, Server, In, Out}
use Rattle.tftp_packet.specs.Hosts.{Datagram, Header}
use Rattle.law_model.specs.Model.{Sent, Took, Req, Oack, Data, Ack, History}
use Rattle.law_tap.specs.Tap.{Pass}
use Rattle.law_tap.specs.WorkedTap.{request_passes, hi_passes, ack_passes, answer_passes}
use Rattle.law_tap.specs.TapCapture.{TapDatagram}
use Rattle.law_tap.specs.Losses.{Noted}
use Rattle.law_tap.specs.SaidFigures.{Figures}

-- ---- a read of two bytes, at the client

abbrev pub at_client : Header
at_client = record { named = Client; service = 69; rollover = None }

-- RRQ "a" in mode "octet"
abbrev pub request_out : Datagram
request_out = record { dir = Out; local = 40000; host = codes "10.0.0.1"; remote = 69; payload = request_passes.payload }

-- DATA 1, "hi"
abbrev pub hi_in : Datagram
hi_in = record { dir = In; local = 40000; host = codes "10.0.0.1"; remote = 41000; payload = hi_passes.payload }

-- ACK 1
abbrev pub ack_out : Datagram
ack_out = record { dir = Out; local = 40000; host = codes "10.0.0.1"; remote = 41000; payload = ack_passes.payload }

abbrev pub whole_read : List Datagram
whole_read = request_out ∷ hi_in ∷ ack_out ∷ []

-- the recorder missed the block
abbrev pub read_without_block : List Datagram
read_without_block = request_out ∷ ack_out ∷ []

-- no packet, from another port
abbrev pub odd_in : Datagram
odd_in = record { dir = In; local = 40000; host = codes "10.0.0.1"; remote = 42000; payload = 255 ∷ [] }

-- DATA 1, "hi", from another port
abbrev pub other_in : Datagram
other_in = record { dir = In; local = 40000; host = codes "10.0.0.1"; remote = 42000; payload = hi_passes.payload }

-- ERROR 5, which answers it
abbrev pub unknown_out : Datagram
unknown_out = record { dir = Out; local = 40000; host = codes "10.0.0.1"; remote = 42000; payload = answer_passes.payload }

-- DATA 1 of the client, which has nothing to send in a read
abbrev pub hi_back : Datagram
hi_back = record { dir = Out; local = 40000; host = codes "10.0.0.1"; remote = 41000; payload = hi_passes.payload }

-- ACK 1 of the server, which has nothing to acknowledge
abbrev pub ack_in : Datagram
ack_in = record { dir = In; local = 40000; host = codes "10.0.0.1"; remote = 41000; payload = ack_passes.payload }

-- ---- and at the server

abbrev pub at_server : Header
at_server = record { named = Server; service = 69; rollover = None }

abbrev pub request_in : Datagram
request_in = record { dir = In; local = 69; host = codes "10.0.0.2"; remote = 40000; payload = request_passes.payload }

abbrev pub hi_out : Datagram
hi_out = record { dir = Out; local = 41000; host = codes "10.0.0.2"; remote = 40000; payload = hi_passes.payload }

-- DATA 1, "ho"
abbrev pub ho_out : Datagram
ho_out = record { dir = Out; local = 41000; host = codes "10.0.0.2"; remote = 40000; payload = 0 ∷ 3 ∷ 0 ∷ 1 ∷ 104 ∷ 111 ∷ [] }

-- ACK 2, though DATA 1 "hi" was the last block
abbrev pub second_ack_in : Datagram
second_ack_in = record { dir = In; local = 41000; host = codes "10.0.0.2"; remote = 40000; payload = 0 ∷ 4 ∷ 0 ∷ 2 ∷ [] }

-- the server changes block 1
abbrev pub changed_block : List Datagram
changed_block = request_in ∷ hi_out ∷ ho_out ∷ []

-- the same two blocks, as noted
abbrev pub changed_notes : List Noted
changed_notes = record { dir = Out; payload = ho_out.payload } ∷ record { dir = Out; payload = hi_out.payload } ∷ []

-- ---- a write of two bytes, at the server

-- WRQ "a" in mode "octet", ACK 0, DATA 1 and ACK 1
abbrev pub write_in : Datagram
write_in = record { dir = In; local = 69; host = codes "10.0.0.2"; remote = 40000; payload = 0 ∷ 2 ∷ 97 ∷ 0 ∷ 111 ∷ 99 ∷ 116 ∷ 101 ∷ 116 ∷ 0 ∷ [] }

abbrev pub zero_out : Datagram
zero_out = record { dir = Out; local = 41000; host = codes "10.0.0.2"; remote = 40000; payload = 0 ∷ 4 ∷ 0 ∷ 0 ∷ [] }

abbrev pub block_in : Datagram
block_in = record { dir = In; local = 41000; host = codes "10.0.0.2"; remote = 40000; payload = hi_passes.payload }

abbrev pub one_out : Datagram
one_out = record { dir = Out; local = 41000; host = codes "10.0.0.2"; remote = 40000; payload = ack_passes.payload }

abbrev pub whole_write : List Datagram
whole_write = write_in ∷ zero_out ∷ block_in ∷ one_out ∷ []

-- the recorder missed the block
abbrev pub write_without_block : List Datagram
write_without_block = write_in ∷ zero_out ∷ one_out ∷ []

-- ---- what was seen of what an end did

-- the client of a read acknowledges block 1, which was not seen
abbrev pub ack_of_unseen : History
ack_of_unseen = Sent (Ack 1) ∷ Sent Req ∷ []

-- the client of a write sends block 1, and no ACK 0 was seen
abbrev pub block_of_unseen_start : History
block_of_unseen_start = Sent (Data 1) ∷ Sent Req ∷ []

-- block 2 comes to the client of a read in lock step, and no ACK of block 1 was seen
abbrev pub block_of_unseen_ack : History
block_of_unseen_ack = Took (Data 2) ∷ Sent (Ack 0) ∷ Took Oack ∷ Sent Req ∷ []

-- the server of a read in a window of four sends block 2, and block 1 was not seen
abbrev pub block_of_unseen_other : History
block_of_unseen_other = Sent (Data 2) ∷ Took (Ack 0) ∷ Sent Oack ∷ Took Req ∷ []

-- the client of a read with options takes the OACK, which was not seen
abbrev pub zero_of_unseen_oack : History
zero_of_unseen_oack = Sent (Ack 0) ∷ Sent Req ∷ []

-- ---- between the ends

-- the recorder missed the block
abbrev pub ack_between : List TapDatagram
ack_between = ack_passes ∷ request_passes ∷ []

-- ACK 2, though DATA 1 "hi" was the last block
abbrev pub ack_above : TapDatagram
ack_above = record { source = ack_passes.source; destination = ack_passes.destination; payload = 0 ∷ 4 ∷ 0 ∷ 2 ∷ [] }

-- DATA 1 once more, with other bytes: "ho"
abbrev pub ho_passes : TapDatagram
ho_passes = record { source = hi_passes.source; destination = hi_passes.destination; payload = 0 ∷ 3 ∷ 0 ∷ 1 ∷ 104 ∷ 111 ∷ [] }

-- DATA 2, "hi"
abbrev pub second_passes : TapDatagram
second_passes = record { source = hi_passes.source; destination = hi_passes.destination; payload = 0 ∷ 3 ∷ 0 ∷ 2 ∷ 104 ∷ 105 ∷ [] }

-- ACK 0, though no option was asked for
abbrev pub zero_passes : TapDatagram
zero_passes = record { source = ack_passes.source; destination = ack_passes.destination; payload = 0 ∷ 4 ∷ 0 ∷ 0 ∷ [] }

-- ACK 1 of the server, which has nothing to acknowledge in a read
abbrev pub server_acknowledges : TapDatagram
server_acknowledges = record { source = hi_passes.source; destination = hi_passes.destination; payload = ack_passes.payload }

-- the same read where the client asks for the size, by tsize 0 (RFC 2349)
abbrev pub sized_request : RequestParts
sized_request = record { side = Get; name = codes "a"; mode = Octet; options = map.from_entries ((codes "tsize", Num 0) ∷ []) }

abbrev pub block_between : List TapDatagram
block_between = hi_passes ∷ request_passes ∷ []

-- what a read of two bytes sends, the other way round: the ACK passed first, and the request last
abbrev pub read_backwards : List Pass
read_backwards =
    record { from = Client; packet = Req }
    ∷ record { from = Server; packet = Data 1 }
    ∷ record { from = Client; packet = Ack 1 }
    ∷ []

-- an OACK where nothing is agreed
abbrev pub oack_of_nothing : List Pass
oack_of_nothing = record { from = Server; packet = Oack } ∷ []

-- blocks 1 and 2 of 8 and 3 bytes
abbrev pub two_blocks : Figures
two_blocks = record { greatest = 65535; reach = 2; zero = false; below = Some 8; tail = Some 3 }
