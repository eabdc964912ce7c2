-- Captures up to a datagram that breaks a rule, each named for that datagram.
use Rattle.std.specs.Prelude.{ℕ, List, [], ◌∷◌, ◌++◌, codes}
use Rattle.tftp_packet.specs.{Pair}
use Rattle.tftp_packet.specs.Hosts.{Datagram}
use Rattle.tftp_packet.specs.{In, Out}
use Rattle.tests_worked.specs.Worked.{server_host, asks_for_a, brings_hi}
use Rattle.tests_worked.specs.WorkedWindows.{request, oack, block, ack, by_eight, by_four, asks, goes, comes, answers, hears, is_asked}

-- a write with options: ACK 0 before a block went out
abbrev pub before_ack_zero : List Datagram
before_ack_zero = asks (request 2 by_four) ∷ comes (oack by_four) ∷ []

abbrev pub ack_zero : Datagram
ack_zero = comes (ack 0)

-- a read, and a block from another port
abbrev pub comes_from_elsewhere : Datagram
comes_from_elsewhere = record { dir = In; local = 40000; host = server_host; remote = 42000; payload = brings_hi.payload }

abbrev pub before_answering : List Datagram
before_answering = asks_for_a ∷ brings_hi ∷ comes_from_elsewhere ∷ []

-- an ACK to there, an ACK to a port that nothing came from, and a block that comes to another port
abbrev pub acknowledges_stray : Datagram
acknowledges_stray = record { dir = Out; local = 40000; host = server_host; remote = 42000; payload = ack 1 }

abbrev pub acknowledges_nobody : Datagram
acknowledges_nobody = record { dir = Out; local = 40000; host = server_host; remote = 43000; payload = ack 1 }

abbrev pub comes_to_another_port : Datagram
comes_to_another_port = record { dir = In; local = 40001; host = server_host; remote = 41000; payload = brings_hi.payload }

-- a read with the largest window: block 65535 is as long as a block
abbrev pub by_most : List Pair
by_most = (codes "blksize", codes "8") ∷ (codes "windowsize", codes "65535") ∷ []

abbrev pub before_last_number : List Datagram
before_last_number = asks (request 1 by_most) ∷ comes (oack by_most) ∷ goes (ack 0) ∷ []

abbrev pub last_number : Datagram
last_number = comes (0 ∷ 3 ∷ 255 ∷ 255 ∷ codes "11111111")

-- a read whose client asks for the size of the file: 524,280 bytes are 65,536 blocks of eight
abbrev pub sized : List ℕ → List Pair
sized size = (codes "blksize", codes "8") ∷ (codes "tsize", size) ∷ []

abbrev pub asks_for_size : Datagram
asks_for_size = asks (request 1 (sized (codes "0")))

abbrev pub too_many_blocks : Datagram
too_many_blocks = comes (oack (sized (codes "524280")))

-- ten bytes: block 2, the last, has one byte, or block 1 comes again with another last byte
abbrev pub before_changed_block : List Datagram
before_changed_block = asks_for_size ∷ comes (oack (sized (codes "10"))) ∷ goes (ack 0) ∷ comes (block 1 (codes "11111111")) ∷ []

abbrev pub changed_block : Datagram
changed_block = comes (block 1 (codes "11111112"))

abbrev pub before_short_block : List Datagram
before_short_block = before_changed_block ++ goes (ack 1) ∷ []

abbrev pub short_block : Datagram
short_block = comes (block 2 (codes "2"))

-- a read: its server acknowledges, or sends block 0
abbrev pub only_asked : List Datagram
only_asked = asks_for_a ∷ []

abbrev pub block_zero : Datagram
block_zero = comes (block 0 [])

-- a read with options: an OACK after a block, another OACK, a block before ACK 0 has gone out
abbrev pub before_changed_reply : List Datagram
before_changed_reply = asks (request 1 by_four) ∷ brings_hi ∷ []

abbrev pub agrees_to_four : Datagram
agrees_to_four = comes (oack by_four)

abbrev pub before_taking_offer : List Datagram
before_taking_offer = asks (request 1 by_four) ∷ comes (oack by_four) ∷ []

abbrev pub agrees_to_eight : Datagram
agrees_to_eight = comes (oack by_eight)

abbrev pub block_too_early : Datagram
block_too_early = comes (block 1 (codes "11111111"))

-- at the server of a read: the OACK again after a block
abbrev pub before_late_oack : List Datagram
before_late_oack = is_asked (request 1 by_four) ∷ answers (oack by_four) ∷ hears (ack 0) ∷ answers (block 1 (codes "11111111")) ∷ []

abbrev pub late_oack : Datagram
late_oack = answers (oack by_four)
