-- One frame of a TFTP transfer, an ACK, recorded by tcpdump, as editcap of Wireshark 4.0.17 writes it: as a classic
-- recording and in blocks.
use Rattle.std.specs.Prelude.{ℕ, false, List, [], ◌∷◌, ◌++◌, Some}
use Rattle.net_pcap.specs.Frames.{FrameParts}
use Rattle.net_pcap.specs.Pieces.{Mode, Said, next_mode}
use Rattle.net_pcap.specs.Pieces.Said.{Opens, Names}
use Rattle.net_pcap.specs.declared.layout.Dropped.{Dropped}
use Rattle.net_pcap.specs.declared.layout.Interface.{Interface}
use Rattle.net_pcap.specs.declared.layout.Layout.TheVariants.{Blocks}
use Rattle.net_pcap.specs.declared.layout.NamedInterface.{NamedInterface}
use Rattle.net_pcap.specs.declared.numbers.Order.TheVariants.{Little}
use Rattle.net_pcap.specs.Pieces.{start}
use Rattle.net_pcap.specs.declared.frame.Direction.TheVariants.{Unknown}

abbrev pub worked_bytes : List ℕ
worked_bytes = 0 ∷ 0 ∷ 0 ∷ 0 ∷ 0 ∷ 0 ∷ 0 ∷ 0 ∷ 0 ∷ 0 ∷ 0 ∷ 0 ∷ 8 ∷ 0 ∷ 69 ∷ 0 ∷ 0 ∷ 32 ∷ 249 ∷ 118 ∷ 64 ∷ 0 ∷ 64 ∷ 17 ∷ 189 ∷ 83 ∷ 192 ∷ 0 ∷ 2 ∷ 1 ∷ 192 ∷ 0 ∷ 2 ∷ 1 ∷ 133 ∷ 8 ∷ 203 ∷ 5 ∷ 0 ∷ 12 ∷ 132 ∷ 32 ∷ 0 ∷ 4 ∷ 0 ∷ 1 ∷ []

-- the frame, at the first interface of a section, the first being 1; of section 0 in a classic recording
abbrev pub worked_frame : ℕ → FrameParts
worked_frame section = record { section = section; interface = 0; link = 1; time = Some 1795415291790951000; direction = Unknown; damaged = false; missed = 0; original = 46; bytes = worked_bytes }

-- ---- a classic recording

abbrev pub worked_header : List ℕ
worked_header = 212 ∷ 195 ∷ 178 ∷ 161 ∷ 2 ∷ 0 ∷ 4 ∷ 0 ∷ 0 ∷ 0 ∷ 0 ∷ 0 ∷ 0 ∷ 0 ∷ 0 ∷ 0 ∷ 0 ∷ 0 ∷ 4 ∷ 0 ∷ 1 ∷ 0 ∷ 0 ∷ 0 ∷ []

abbrev pub worked_record : List ℕ
worked_record = 251 ∷ 220 ∷ 3 ∷ 107 ∷ 167 ∷ 17 ∷ 12 ∷ 0 ∷ 46 ∷ 0 ∷ 0 ∷ 0 ∷ 46 ∷ 0 ∷ 0 ∷ 0 ∷ 0 ∷ 0 ∷ 0 ∷ 0 ∷ 0 ∷ 0 ∷ 0 ∷ 0 ∷ 0 ∷ 0 ∷ 0 ∷ 0 ∷ 8 ∷ 0 ∷ 69 ∷ 0 ∷ 0 ∷ 32 ∷ 249 ∷ 118 ∷ 64 ∷ 0 ∷ 64 ∷ 17 ∷ 189 ∷ 83 ∷ 192 ∷ 0 ∷ 2 ∷ 1 ∷ 192 ∷ 0 ∷ 2 ∷ 1 ∷ 133 ∷ 8 ∷ 203 ∷ 5 ∷ 0 ∷ 12 ∷ 132 ∷ 32 ∷ 0 ∷ 4 ∷ 0 ∷ 1 ∷ []

abbrev pub worked_classic : List ℕ
worked_classic = worked_header ++ worked_record

-- ---- blocks

abbrev pub worked_section : List ℕ
worked_section = 10 ∷ 13 ∷ 13 ∷ 10 ∷ 108 ∷ 0 ∷ 0 ∷ 0 ∷ 77 ∷ 60 ∷ 43 ∷ 26 ∷ 1 ∷ 0 ∷ 0 ∷ 0 ∷ 255 ∷ 255 ∷ 255 ∷ 255 ∷ 255 ∷ 255 ∷ 255 ∷ 255 ∷ 4 ∷ 0 ∷ 69 ∷ 0 ∷ 69 ∷ 100 ∷ 105 ∷ 116 ∷ 99 ∷ 97 ∷ 112 ∷ 32 ∷ 40 ∷ 87 ∷ 105 ∷ 114 ∷ 101 ∷ 115 ∷ 104 ∷ 97 ∷ 114 ∷ 107 ∷ 41 ∷ 32 ∷ 52 ∷ 46 ∷ 48 ∷ 46 ∷ 49 ∷ 55 ∷ 32 ∷ 40 ∷ 71 ∷ 105 ∷ 116 ∷ 32 ∷ 118 ∷ 52 ∷ 46 ∷ 48 ∷ 46 ∷ 49 ∷ 55 ∷ 32 ∷ 112 ∷ 97 ∷ 99 ∷ 107 ∷ 97 ∷ 103 ∷ 101 ∷ 100 ∷ 32 ∷ 97 ∷ 115 ∷ 32 ∷ 52 ∷ 46 ∷ 48 ∷ 46 ∷ 49 ∷ 55 ∷ 45 ∷ 48 ∷ 43 ∷ 100 ∷ 101 ∷ 98 ∷ 49 ∷ 50 ∷ 117 ∷ 51 ∷ 41 ∷ 0 ∷ 0 ∷ 0 ∷ 0 ∷ 0 ∷ 0 ∷ 0 ∷ 108 ∷ 0 ∷ 0 ∷ 0 ∷ []

abbrev pub worked_interface : List ℕ
worked_interface = 1 ∷ 0 ∷ 0 ∷ 0 ∷ 20 ∷ 0 ∷ 0 ∷ 0 ∷ 1 ∷ 0 ∷ 0 ∷ 0 ∷ 0 ∷ 0 ∷ 4 ∷ 0 ∷ 20 ∷ 0 ∷ 0 ∷ 0 ∷ []

abbrev pub worked_packet : List ℕ
worked_packet = 6 ∷ 0 ∷ 0 ∷ 0 ∷ 80 ∷ 0 ∷ 0 ∷ 0 ∷ 0 ∷ 0 ∷ 0 ∷ 0 ∷ 235 ∷ 96 ∷ 6 ∷ 0 ∷ 103 ∷ 6 ∷ 177 ∷ 178 ∷ 46 ∷ 0 ∷ 0 ∷ 0 ∷ 46 ∷ 0 ∷ 0 ∷ 0 ∷ 0 ∷ 0 ∷ 0 ∷ 0 ∷ 0 ∷ 0 ∷ 0 ∷ 0 ∷ 0 ∷ 0 ∷ 0 ∷ 0 ∷ 8 ∷ 0 ∷ 69 ∷ 0 ∷ 0 ∷ 32 ∷ 249 ∷ 118 ∷ 64 ∷ 0 ∷ 64 ∷ 17 ∷ 189 ∷ 83 ∷ 192 ∷ 0 ∷ 2 ∷ 1 ∷ 192 ∷ 0 ∷ 2 ∷ 1 ∷ 133 ∷ 8 ∷ 203 ∷ 5 ∷ 0 ∷ 12 ∷ 132 ∷ 32 ∷ 0 ∷ 4 ∷ 0 ∷ 1 ∷ 0 ∷ 0 ∷ 80 ∷ 0 ∷ 0 ∷ 0 ∷ []

abbrev pub worked_blocks : List ℕ
worked_blocks = worked_section ++ (worked_interface ++ worked_packet)

-- ---- what was lost

-- what the block of the interface says
abbrev pub worked_described : Interface
worked_described = record { link = 1; longest = 262144; units = 1000000; offset = 0 }

abbrev pub worked_named : NamedInterface
worked_named = record { described = worked_described; section = 1; number = 0; reported = 0; missed = 0 }

-- the body of a statistics block, as Python's struct packs it: 3 packets by `isb_ifdrop`, 2 by `isb_osdrop`
abbrev pub statistics_body : List ℕ
statistics_body = 0 ∷ 0 ∷ 0 ∷ 0 ∷ 0 ∷ 0 ∷ 0 ∷ 0 ∷ 0 ∷ 0 ∷ 0 ∷ 0 ∷ 5 ∷ 0 ∷ 8 ∷ 0 ∷ 3 ∷ 0 ∷ 0 ∷ 0 ∷ 0 ∷ 0 ∷ 0 ∷ 0 ∷ 7 ∷ 0 ∷ 8 ∷ 0 ∷ 2 ∷ 0 ∷ 0 ∷ 0 ∷ 0 ∷ 0 ∷ 0 ∷ 0 ∷ 0 ∷ 0 ∷ 0 ∷ 0 ∷ []

-- the first interface dropped so many
abbrev pub counted : ℕ → Dropped
counted count = record { interface = 0; count = count }

-- the worked frame, before which so many were lost
abbrev pub with_count : ℕ → FrameParts
with_count count = record (worked_frame 1) { missed = count }

abbrev pub led : Mode → List Said → Mode
led mode [] = mode
led mode (said ∷ more) = led (next_mode mode said) more

-- what is known after these, in a section of one interface
abbrev pub after_all : List Said → Mode
after_all said = led start (Opens (Blocks Little) ∷ Names worked_described ∷ said)
