-- What the datagrams of a text are taken for: a text has two bytes for a block's number (RFC 1350, section 5), and what comes after
-- 65535 is said beside it. The lists have the oldest datagram first.
use Rattle.std.specs.Prelude.{◌≡◌, List, Option, Some, None, reverse}
use Rattle.tftp_packet.specs.Hosts.{Datagram, Header}
use Rattle.tftp_packet.specs.{Rollover}
use Rattle.law_rollover.specs.{AreUnrolled}

-- the header of a text, with what comes after block 65535
abbrev pub header_by : Option Rollover → Header → Header
header_by None header = header
header_by (Some r) header = record { named = header.named; service = header.service; rollover = Some r }

-- The datagrams as they are; or where numbers begin again, each with the block near in the place of its number.
abbrev pub AreTakenAs : Option Rollover → Header → List Datagram → List Datagram → Type 0
AreTakenAs None header datagrams taken = taken ≡ datagrams
AreTakenAs (Some r) header datagrams taken = AreUnrolled r (header_by (Some r) header) (reverse datagrams) (reverse taken)

-- This holds of what they are taken for.
abbrev pub HoldsBy : Option Rollover → (Header → List Datagram → Type 0) → Header → List Datagram → Type 0
HoldsBy None Holds header datagrams = Holds header datagrams
HoldsBy (Some r) Holds header datagrams = (taken : List Datagram) × AreTakenAs (Some r) header datagrams taken × Holds (header_by (Some r) header) taken
