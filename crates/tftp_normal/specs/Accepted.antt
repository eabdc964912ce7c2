-- Which texts are accepted, and with which meaning; `rollover` is what comes after block 65535, where anything does.
use Rattle.std.specs.Prelude.{ℕ, List, map as each, Option, Some, None}
use Rattle.tftp_capture.specs.{Numbered, IsCapture}
use Rattle.tftp_packet.specs.{Rollover}
use Rattle.tftp_packet.specs.Hosts.{Datagram, Header}
use Rattle.law_model.specs.Model.{Meaning}
use Rattle.law_end.specs.{IsWritable, Shows, ShowsBy}
use Rattle.law_rollover.specs.{ShowsByNumber}
use Rattle.tftp_judge.specs.{header_by}

-- the datagrams show the meaning over this wire, as they are or by numbers
abbrev pub IsShownOver : Option Rollover → Header → Meaning → List ℕ → List Datagram → Type 0
IsShownOver None header m wire datagrams = ShowsBy header m wire datagrams
IsShownOver (Some r) header m wire datagrams = ShowsByNumber r (header_by (Some r) header) m wire datagrams

-- and over some wire, where its blocks can be numbered
abbrev pub IsShownBy : Option Rollover → Header → Meaning → List Datagram → Type 0
IsShownBy None header m datagrams = Shows header m datagrams
IsShownBy (Some r) header m datagrams = IsWritable (Some r) m × (wire : List ℕ) × IsShownOver (Some r) header m wire datagrams

-- the text is a capture, and its datagrams show the meaning
abbrev pub IsAcceptedBy : Option Rollover → List ℕ → Meaning → Type 0
IsAcceptedBy rollover text m = (header : Header) × (datagrams : List Numbered) × IsCapture text header datagrams × IsShownBy rollover header m (each (λ d. d.1) datagrams)

-- the same where blocks go up to 65535
abbrev pub IsAccepted : List ℕ → Meaning → Type 0
IsAccepted = IsAcceptedBy None
