-- The datagrams of a capture text, also of one that has a fault behind them.
use Rattle.std.specs.Prelude.{◌≡◌, ℕ, List, Option, Some, None}
use Rattle.tftp_capture.specs.{Begins, BeginsWith, Numbered}
use Rattle.tftp_packet.specs.{Rollover}
use Rattle.tftp_packet.specs.Hosts.{Datagram, Header}
use Rattle.law_rollover.specs.{AreUnrolled}
use Rattle.tftp_judge.specs.{header_by, unnumbered}
use Rattle.law_pair.specs.{Capture}

-- The text begins with a header and these datagrams, and with no others but the first of these: they are all of a capture,
-- or all before the text's first fault.
pub record HasDatagrams (text : List ℕ) (header : Header) (datagrams : List Numbered) : Type 0 where
  pub begins : Begins text header datagrams
  pub all : (other : Header) (more : List Numbered) → Begins text other more → BeginsWith datagrams more

-- the header with the datagrams, without the numbers of their lines
abbrev pub capture_of : Header → List Numbered → Capture
capture_of h datagrams = record { header = h; datagrams = unnumbered datagrams }

-- The datagrams as they are; or where numbers begin again, each with the block near in the place of its number. Both lists have the
-- newest first.
abbrev pub AreReadAs : Option Rollover → Header → List Datagram → List Datagram → Type 0
AreReadAs None header datagrams read = read ≡ datagrams
AreReadAs (Some r) header datagrams read = AreUnrolled r (header_by (Some r) header) datagrams read

-- the header by what comes after block 65535, with the datagrams, the oldest first, as they are read by it
abbrev pub captured_by : Option Rollover → Header → List Datagram → Capture
captured_by rollover h read = record { header = header_by rollover h; datagrams = read }
