-- A capture of blocks past the end of a round, and what `show` prints of it.
use Rattle.std.specs.Prelude.{ℕ, ◌+◌, ◌++◌, List, [], ◌∷◌, codes}
use Rattle.tftp_packet.specs.{In}
use Rattle.tftp_packet.specs.Hosts.{Datagram, no_host}
use Rattle.tftp_capture.specs.{Numbered}

-- a block of one byte, whose number is these two
abbrev pub one_byte : (x y : ℕ) → Datagram
one_byte x y = record { dir = In; local = 40000; host = no_host; remote = 50000; payload = 0 ∷ 3 ∷ x ∷ y ∷ 7 ∷ [] }

-- block 65535, the two blocks after it, by what comes after 65535, and block 65535 once more
abbrev pub past_the_round : (first : ℕ) → List Numbered
past_the_round first = (4, one_byte 255 255) ∷ (5, one_byte 0 first) ∷ (6, one_byte 0 (first + 1)) ∷ (7, one_byte 255 255) ∷ []

abbrev pub shown_by_zero : List ℕ
shown_by_zero = codes "1 in DATA 65535 1\n" ++ codes "2 in DATA 0 1 block 65536\n" ++ codes "3 in DATA 1 1 block 65537\n" ++ codes "4 in DATA 65535 1\n"

abbrev pub shown_by_one : List ℕ
shown_by_one = codes "1 in DATA 65535 1\n" ++ codes "2 in DATA 1 1 block 65536\n" ++ codes "3 in DATA 2 1 block 65537\n" ++ codes "4 in DATA 65535 1\n"

-- where nothing is said of what comes after 65535
abbrev pub shown_by_number : List ℕ
shown_by_number = codes "1 in DATA 65535 1\n" ++ codes "2 in DATA 0 1\n" ++ codes "3 in DATA 1 1\n" ++ codes "4 in DATA 65535 1\n"
