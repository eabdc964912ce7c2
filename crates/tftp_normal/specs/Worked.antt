-- Four small transfers, and the normal capture of each: a read of two bytes without options, a read of 43 bytes by
-- windows of four blocks, a write in lock step, and a read of a text in which a block ends between CR and LF. And the blocks of a
-- read about which numbers begin again.
use Rattle.std.specs.Prelude.{ℕ, List, [], ◌∷◌, ◌++◌, codes}
use Rattle.tftp_packet.specs.Hosts.{no_host, Datagram}
use Rattle.tftp_packet.specs.{In, Out}
use Rattle.tftp_packet.specs.{Get, Put, Octet, Netascii}
use Rattle.tftp_capture.specs.{line}
use Rattle.law_model.specs.Model.{Meaning, MachinePacket, Data, Ack, blksize_of, block, eight_a_block}
use Rattle.law_end.specs.{wire_of}

-- what goes out from the client first, to the service port, and what goes on between the two ends' own ports
abbrev pub asks : List ℕ → Datagram
asks payload = record { dir = Out; local = 50000; host = no_host; remote = 69; payload = payload }

abbrev pub came : List ℕ → Datagram
came payload = record { dir = In; local = 50000; host = no_host; remote = 50001; payload = payload }

abbrev pub went : List ℕ → Datagram
went payload = record { dir = Out; local = 50000; host = no_host; remote = 50001; payload = payload }

-- the two bytes `hi` of the file `a`
abbrev pub two_bytes_datagrams : List Datagram
two_bytes_datagrams = asks (0 ∷ 1 ∷ 97 ∷ 0 ∷ codes "octet" ++ 0 ∷ []) ∷ came (0 ∷ 3 ∷ 0 ∷ 1 ∷ codes "hi") ∷ went (0 ∷ 4 ∷ 0 ∷ 1 ∷ []) ∷ []

abbrev pub two_bytes_text : List ℕ
two_bytes_text =
    line (codes "tftp-capture 1") ++ line (codes "end client") ++ line (codes "service 69") ++ line (codes "out 50000 69 000161006f6374657400") ++ line (codes "in 50000 50001 000300016869")
    ++ line (codes "out 50000 50001 00040001") ++ line (codes "total 3")

-- the options blksize 8 and windowsize 4, as they are written
abbrev pub eight_by_four_bytes : List ℕ
eight_by_four_bytes = codes "blksize" ++ 0 ∷ codes "8" ++ 0 ∷ codes "windowsize" ++ 0 ∷ codes "4" ++ 0 ∷ []

abbrev pub six_blocks_datagrams : List Datagram
six_blocks_datagrams =
    asks (0 ∷ 1 ∷ 97 ∷ 0 ∷ codes "octet" ++ 0 ∷ eight_by_four_bytes)
    ∷ came (0 ∷ 6 ∷ eight_by_four_bytes)
    ∷ went (0 ∷ 4 ∷ 0 ∷ 0 ∷ [])
    ∷ came (0 ∷ 3 ∷ 0 ∷ 1 ∷ codes "11111111")
    ∷ came (0 ∷ 3 ∷ 0 ∷ 2 ∷ codes "22222222")
    ∷ came (0 ∷ 3 ∷ 0 ∷ 3 ∷ codes "33333333")
    ∷ came (0 ∷ 3 ∷ 0 ∷ 4 ∷ codes "44444444")
    ∷ went (0 ∷ 4 ∷ 0 ∷ 4 ∷ [])
    ∷ came (0 ∷ 3 ∷ 0 ∷ 5 ∷ codes "55555555")
    ∷ came (0 ∷ 3 ∷ 0 ∷ 6 ∷ codes "666")
    ∷ went (0 ∷ 4 ∷ 0 ∷ 6 ∷ [])
    ∷ []

abbrev pub six_blocks_text : List ℕ
six_blocks_text =
    line (codes "tftp-capture 1") ++ line (codes "end client") ++ line (codes "service 69") ++ line (codes "out 50000 69 000161006f6374657400626c6b73697a6500380077696e646f7773697a65003400")
    ++ line (codes "in 50000 50001 0006626c6b73697a6500380077696e646f7773697a65003400") ++ line (codes "out 50000 50001 00040000") ++ line (codes "in 50000 50001 000300013131313131313131")
    ++ line (codes "in 50000 50001 000300023232323232323232") ++ line (codes "in 50000 50001 000300033333333333333333") ++ line (codes "in 50000 50001 000300043434343434343434")
    ++ line (codes "out 50000 50001 00040004") ++ line (codes "in 50000 50001 000300053535353535353535") ++ line (codes "in 50000 50001 00030006363636") ++ line (codes "out 50000 50001 00040006")
    ++ line (codes "total 11")

-- the option blksize 8, as it is written
abbrev pub eight_bytes : List ℕ
eight_bytes = codes "blksize" ++ 0 ∷ codes "8" ++ 0 ∷ []

abbrev pub ten_bytes_written : Meaning
ten_bytes_written = record { side = Put; name = codes "a"; mode = Octet; requested = eight_a_block; agreed = eight_a_block; file = codes "1111111122" }

abbrev pub ten_bytes_written_datagrams : List Datagram
ten_bytes_written_datagrams =
    asks (0 ∷ 2 ∷ 97 ∷ 0 ∷ codes "octet" ++ 0 ∷ eight_bytes)
    ∷ came (0 ∷ 6 ∷ eight_bytes)
    ∷ went (0 ∷ 3 ∷ 0 ∷ 1 ∷ codes "11111111")
    ∷ came (0 ∷ 4 ∷ 0 ∷ 1 ∷ [])
    ∷ went (0 ∷ 3 ∷ 0 ∷ 2 ∷ codes "22")
    ∷ came (0 ∷ 4 ∷ 0 ∷ 2 ∷ [])
    ∷ []

-- `abcdefg`, the end of a line, and `h`
abbrev pub line_end_cut : Meaning
line_end_cut = record { side = Get; name = codes "a"; mode = Netascii; requested = eight_a_block; agreed = eight_a_block; file = codes "abcdefg" ++ 10 ∷ codes "h" }

abbrev pub line_end_cut_datagrams : List Datagram
line_end_cut_datagrams =
    asks (0 ∷ 1 ∷ 97 ∷ 0 ∷ codes "netascii" ++ 0 ∷ eight_bytes)
    ∷ came (0 ∷ 6 ∷ eight_bytes)
    ∷ went (0 ∷ 4 ∷ 0 ∷ 0 ∷ [])
    ∷ came (0 ∷ 3 ∷ 0 ∷ 1 ∷ codes "abcdefg" ++ 13 ∷ [])
    ∷ went (0 ∷ 4 ∷ 0 ∷ 1 ∷ [])
    ∷ came (0 ∷ 3 ∷ 0 ∷ 2 ∷ 10 ∷ codes "h")
    ∷ went (0 ∷ 4 ∷ 0 ∷ 2 ∷ [])
    ∷ []

-- ---- numbers that begin again

abbrev pub past_the_round : List MachinePacket
past_the_round = Data 65536 ∷ Ack 65536 ∷ Data 65537 ∷ Data 131071 ∷ Data 131072 ∷ Ack 131072 ∷ []

-- the DATA of a block by these two bytes for its number
abbrev pub came_as : Meaning → (k high low : ℕ) → Datagram
came_as m k high low = came (0 ∷ 3 ∷ high ∷ low ∷ block (blksize_of m) (wire_of m) k)

abbrev pub past_the_round_by_zero : Meaning → List Datagram
past_the_round_by_zero m =
    came_as m 65536 0 0
    ∷ went (0 ∷ 4 ∷ 0 ∷ 0 ∷ [])
    ∷ came_as m 65537 0 1
    ∷ came_as m 131071 255 255
    ∷ came_as m 131072 0 0
    ∷ went (0 ∷ 4 ∷ 0 ∷ 0 ∷ [])
    ∷ []

abbrev pub past_the_round_by_one : Meaning → List Datagram
past_the_round_by_one m =
    came_as m 65536 0 1
    ∷ went (0 ∷ 4 ∷ 0 ∷ 1 ∷ [])
    ∷ came_as m 65537 0 2
    ∷ came_as m 131071 0 1
    ∷ came_as m 131072 0 2
    ∷ went (0 ∷ 4 ∷ 0 ∷ 2 ∷ [])
    ∷ []
