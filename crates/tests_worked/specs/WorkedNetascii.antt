-- Captures of a read in netascii of `abcdefg`, the end of a line, and `h` (RFC 1350, section 1; RFC 764).
use Rattle.std.specs.Prelude.{ℕ, List, [], ◌∷◌, ◌++◌, codes}
use Rattle.tftp_packet.specs.Hosts.{Datagram}
use Rattle.tests_worked.specs.WorkedWindows.{request_for, oack, block, ack, by_eight, asks, goes, comes}

abbrev pub asks_for_lines : Datagram
asks_for_lines = asks (request_for (codes "a") (codes "netascii") 1 by_eight)

-- a read whose wire is in two blocks, of which the first has these eight bytes and the second these
abbrev pub read_of_wire : List ℕ → List ℕ → List Datagram
read_of_wire first second =
    asks_for_lines
    ∷ comes (oack by_eight)
    ∷ goes (ack 0)
    ∷ comes (block 1 first)
    ∷ goes (ack 1)
    ∷ comes (block 2 second)
    ∷ goes (ack 2)
    ∷ []

-- the line ends by CR LF, of which the first block has the CR and the second the LF
abbrev pub read_of_lines : List Datagram
read_of_lines = read_of_wire (codes "abcdefg" ++ 13 ∷ []) (10 ∷ codes "h")

-- it ends by LF alone, which reads as itself
abbrev pub read_of_bare_lines : List Datagram
read_of_bare_lines = read_of_wire (codes "abcdefg" ++ 10 ∷ []) (codes "h")
