-- What is kept of a file: its bytes, or those of the wire that carries it (RFC 1350, section 1).
use Rattle.std.specs.Prelude.{◌≡◌, ℕ, List}
use Rattle.tftp_packet.specs.{Mode}
use Rattle.law_end.specs.{carried_file, written_wire}
use Rattle.tftp_judge.specs.declared.file.FileBytes.{FileBytes}

-- the file that is kept
abbrev pub file_in : Mode → FileBytes → List ℕ
file_in mode (FileBytes.File bytes) = bytes.items
file_in mode (FileBytes.Wire wire) = carried_file mode wire.items

-- a wire is kept only where it is the one that is written for its file
abbrev pub IsCanonical : Mode → FileBytes → Type 0
IsCanonical mode (FileBytes.File bytes) = Unit {0}
IsCanonical mode (FileBytes.Wire wire) = wire.items ≡ written_wire mode (carried_file mode wire.items)
