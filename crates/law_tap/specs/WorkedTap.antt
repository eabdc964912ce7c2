-- Small transfers, as they pass a point between their ends. Lists have the newest first.
use Rattle.std.specs.Prelude.{List, [], ◌∷◌, codes, None}
use Rattle.tftp_packet.specs.{Client, Server}
use Rattle.law_model.specs.Model.{Req, Oack, Data, Ack}
use Rattle.law_tap.specs.Tap.{Pass}
use Rattle.law_tap.specs.TapCapture.{PeerId, TapDatagram, TapSides}

-- ---- a read of two bytes, with a stray and its answer

abbrev pub client_side : PeerId
client_side = record { host = codes "10.0.0.2"; port = 40000 }

abbrev pub service_side : PeerId
service_side = record { host = codes "10.0.0.1"; port = 69 }

abbrev pub server_side : PeerId
server_side = record { host = codes "10.0.0.1"; port = 41000 }

abbrev pub other_side : PeerId
other_side = record { host = codes "10.0.0.1"; port = 42000 }

abbrev pub worked_sides : TapSides
worked_sides = record { client = client_side; asked = service_side; server = server_side; rollover = None }

-- RRQ "a" in mode "octet"
abbrev pub request_passes : TapDatagram
request_passes = record { source = client_side; destination = service_side; payload = 0 ∷ 1 ∷ 97 ∷ 0 ∷ 111 ∷ 99 ∷ 116 ∷ 101 ∷ 116 ∷ 0 ∷ [] }

-- DATA 1, "hi"
abbrev pub hi_passes : TapDatagram
hi_passes = record { source = server_side; destination = client_side; payload = 0 ∷ 3 ∷ 0 ∷ 1 ∷ 104 ∷ 105 ∷ [] }

-- something from another port, and ERROR 5 in answer
abbrev pub stray_passes : TapDatagram
stray_passes = record { source = other_side; destination = client_side; payload = 255 ∷ [] }

abbrev pub answer_passes : TapDatagram
answer_passes = record { source = client_side; destination = other_side; payload = 0 ∷ 5 ∷ 0 ∷ 5 ∷ 0 ∷ [] }

-- ACK 1
abbrev pub ack_passes : TapDatagram
ack_passes = record { source = client_side; destination = server_side; payload = 0 ∷ 4 ∷ 0 ∷ 1 ∷ [] }

abbrev pub read_between : List TapDatagram
read_between = ack_passes ∷ answer_passes ∷ stray_passes ∷ hi_passes ∷ request_passes ∷ []

-- ---- what passed

-- a read in lock step, in which DATA 1 was sent twice and passes again after DATA 2: so no server sends
abbrev pub block_passes_late : List Pass
block_passes_late =
    record { from = Server; packet = Data 1 }
    ∷ record { from = Server; packet = Data 2 }
    ∷ record { from = Client; packet = Ack 1 }
    ∷ record { from = Server; packet = Data 1 }
    ∷ record { from = Client; packet = Ack 0 }
    ∷ record { from = Server; packet = Oack }
    ∷ record { from = Client; packet = Req }
    ∷ []

-- and after that the request passes again: so no client sends
abbrev pub both_pass_late : List Pass
both_pass_late = record { from = Client; packet = Req } ∷ block_passes_late

-- a write in a window of four, in which DATA 2 passes before DATA 1: so no client sends
abbrev pub block_passes_early : List Pass
block_passes_early =
    record { from = Client; packet = Data 1 }
    ∷ record { from = Server; packet = Ack 0 }
    ∷ record { from = Client; packet = Data 2 }
    ∷ record { from = Server; packet = Oack }
    ∷ record { from = Client; packet = Req }
    ∷ []

-- an ACK of a block that has not passed: no end may see that, and no point between them
abbrev pub ack_of_nothing : List Pass
ack_of_nothing = record { from = Client; packet = Ack 1 } ∷ record { from = Client; packet = Req } ∷ []
