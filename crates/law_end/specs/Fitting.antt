-- Which wire carries the file of a meaning (RFC 1350, section 1 and section 6; RFC 2349).
use Rattle.std.specs.Prelude.{◌≡◌, ℕ, ◌≤◌, List, length, Option, Some, codes}
use Rattle.std.specs.FinMap as map
use Rattle.tftp_packet.specs.{Num, Mode, Octet, Netascii}
use Rattle.tftp_packet.specs.{Rollover}
use Rattle.tftp_packet.specs.Rounds.{greatest_of}
use Rattle.law_model.specs.Model.{Meaning, request_of, blksize_of, block_count}
use Rattle.tftp_netascii.specs.{Reads, canonical_wire, file_of}
use Rattle.tftp_nego.specs.{MayAgree}

-- in octet mode the bytes go as they are, in netascii as a text that reads as the file
abbrev pub ReadsAs : Mode → List ℕ → List ℕ → Type 0
ReadsAs Octet wire file = wire ≡ file
ReadsAs Netascii wire file = Reads wire file

-- the one file that a wire reads as
abbrev pub carried_file : Mode → List ℕ → List ℕ
carried_file Octet wire = wire
carried_file Netascii wire = file_of wire

-- The blocks are numbered from 1 up to the greatest, which is 65535 by two bytes (RFC 1350, section 5).
pub record Fits (rollover : Option Rollover) (m : Meaning) (wire : List ℕ) : Type 0 where
  pub may_agree : MayAgree rollover (request_of m) m.agreed
  pub reads : ReadsAs m.mode wire m.file
  pub size : m.mode ≡ Octet → (size : ℕ) → map.get m.agreed (codes "tsize") ≡ Some (Num size) → length wire ≡ size
  pub numbered : block_count (blksize_of m) wire ≤ greatest_of rollover

-- the one wire of a file that is written, among those that carry it
abbrev pub written_wire : Mode → List ℕ → List ℕ
written_wire Octet file = file
written_wire Netascii file = canonical_wire file

-- the blocks of that wire are numbered up to the greatest too
abbrev pub IsWritable : Option Rollover → Meaning → Type 0
IsWritable rollover m = block_count (blksize_of m) (written_wire m.mode m.file) ≤ greatest_of rollover
