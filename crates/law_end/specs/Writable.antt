-- Which meanings can be written as a capture (RFC 1350, sections 2, 5 and 6; RFC 2347).
use Rattle.std.specs.Prelude.{ℕ, ◌<◌, ◌≤◌, List, Option, length}
use Rattle.std.specs.List.{AllByRecursion}
use Rattle.tftp_packet.specs.{Message, Rollover, Spells, canonical}
use Rattle.law_model.specs.Model.{Meaning, request_of, SomethingAgreed, blksize_of, windowsize_of, block_count}
use Rattle.law_end.specs.Fitting.{Fits, written_wire}

-- the wire that is written for a meaning, and its blocks
abbrev pub wire_of : Meaning → List ℕ
wire_of m = written_wire m.mode m.file

abbrev pub blocks_of : Meaning → ℕ
blocks_of m = block_count (blksize_of m) (wire_of m)

-- what is written for the message spells it, and goes into one datagram
abbrev pub HasPayload : Message → Type 0
HasPayload message = Spells (canonical message) message × (length (canonical message) ≤ 65527)

-- The file fits on the wire that is written for it, in blocks up to the greatest, and each packet can be spelled in a
-- datagram.
pub record CanBeWritten (rollover : Option Rollover) (m : Meaning) : Type 0 where
  pub fits : Fits rollover m (wire_of m)
  pub bytes : AllByRecursion (λ b. b < 256) (wire_of m)
  pub request : HasPayload (Message.Request (request_of m))
  pub oack : SomethingAgreed m → HasPayload (Message.Oack m.agreed)
  pub block_size : blksize_of m ≤ 65464
  pub window_size : 1 ≤ windowsize_of m

-- the same, whether numbers begin again or not
abbrev pub CanBeNumbered : Meaning → Type 0
CanBeNumbered m = (rollover : Option Rollover) × CanBeWritten rollover m
