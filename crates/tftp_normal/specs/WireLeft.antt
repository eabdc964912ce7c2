-- What is left of the wire that is written for a file (RFC 1350, section 1; RFC 764).
use Rattle.std.specs.Prelude.{◌≡◌, ℕ, List, [], ◌∷◌, ◌++◌, Option, Some, None}
use Rattle.tftp_packet.specs.{Octet}
use Rattle.law_end.specs.{written_wire}
use Rattle.tftp_normal.specs.declared.wire_blocks.WireBlocks.TheInside.{Inside}

-- the byte, where there is one
abbrev pub bytes_of : Option ℕ → List ℕ
bytes_of None = []
bytes_of (Some byte) = byte ∷ []

-- the second byte of a pair, where the first has gone, and then what is left of the file
abbrev pub left_of : Inside → List ℕ
left_of blocks = bytes_of blocks.second ++ written_wire blocks.mode blocks.file.now

-- in octet mode there are no pairs
abbrev pub HasNoPair : Inside → Type 0
HasNoPair blocks = blocks.mode ≡ Octet → blocks.second ≡ None
