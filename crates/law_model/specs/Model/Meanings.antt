-- What one transfer means: who asked for what, what was agreed, and the file (RFC 1350, sections 1 and 2; RFC 2347;
-- RFC 2348; RFC 7440).
use Rattle.std.specs.Prelude.{◌≡◌, ◌≢◌, ℕ, List, codes}
use Rattle.tftp_packet.specs.{OptionMap, no_options, RequestParts, Side, Mode}
pub use Rattle.tftp_packet.specs.Numbers.{number_or, option_or}

pub record Meaning : Type 0 where
  pub side : Side
  pub name : List ℕ
  pub mode : Mode
  pub requested : OptionMap  -- what the client asked for
  pub agreed : OptionMap  -- what the server agreed to, or nothing
  pub file : List ℕ

-- what the request says of it
abbrev pub request_of : Meaning → RequestParts
request_of m = record { side = m.side; name = m.name; mode = m.mode; options = m.requested }

-- an option that the server leaves out counts as never requested (RFC 2347, section "Negotiation Protocol")
abbrev pub NothingAgreed : Meaning → Type 0
NothingAgreed m = m.agreed ≡ no_options

abbrev pub SomethingAgreed : Meaning → Type 0
SomethingAgreed m = m.agreed ≢ no_options

-- how many bytes a block has that is not the last (RFC 1350, section 2; RFC 2348)
abbrev pub blksize_of : Meaning → ℕ
blksize_of m = option_or 512 m.agreed (codes "blksize")

-- how many blocks may be sent after an acknowledged one (RFC 1350, section 2: one; RFC 7440, section 4)
abbrev pub windowsize_of : Meaning → ℕ
windowsize_of m = option_or 1 m.agreed (codes "windowsize")
