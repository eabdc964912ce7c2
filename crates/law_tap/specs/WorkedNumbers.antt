-- The two ends of a read past the end of a round of numbers.
use Rattle.std.specs.Prelude.{List, [], ◌∷◌, Some}
use Rattle.tftp_packet.specs.{Client, Server, Zero}
use Rattle.law_model.specs.Model.{Ack, Data}
use Rattle.law_tap.specs.Tap.{Pass}
use Rattle.law_tap.specs.TapCapture.{TapDatagram, TapSides}
use Rattle.law_tap.specs.WorkedTap.{client_side, server_side, service_side}

abbrev pub rolling_sides : TapSides
rolling_sides = record { client = client_side; asked = service_side; server = server_side; rollover = Some Zero }

-- DATA 65535, as a number and as a block
abbrev pub last_of_round : TapDatagram
last_of_round = record { source = server_side; destination = client_side; payload = 0 ∷ 3 ∷ 255 ∷ 255 ∷ 7 ∷ [] }

-- a DATA of number 0, and the same of block 65536
abbrev pub number_zero : TapDatagram
number_zero = record { source = server_side; destination = client_side; payload = 0 ∷ 3 ∷ 0 ∷ 0 ∷ 7 ∷ [] }

abbrev pub block_65536 : TapDatagram
block_65536 = record { source = server_side; destination = client_side; payload = 0 ∷ 3 ∷ 256 ∷ 0 ∷ 7 ∷ [] }

-- what passed: an ACK of block 65536 after that block
abbrev pub past_the_round_between : List Pass
past_the_round_between =
    record { from = Client; packet = Ack 65536 } ∷ record { from = Server; packet = Data 65536 } ∷ record { from = Server; packet = Data 65535 }
    ∷ record { from = Server; packet = Data 40000 } ∷ record { from = Server; packet = Data 20000 } ∷ []
