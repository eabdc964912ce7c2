-- What was written of a capture, and for what header and datagrams it stands.
use Rattle.std.specs.Prelude.{◌≡◌, ℕ, List, [], ◌∷◌, ◌++◌, length, map, codes, decimal, Option, None, Some}
use Rattle.tftp_capture.specs.declared.version.Version.{Version}
use Rattle.tftp_capture.specs.declared.version.Version.TheVariants.{One, Two}
use Rattle.tftp_packet.specs.{Dir}
use Rattle.net_streams.specs.Streams.Sinks.{Gathers, Sink}
use Rattle.tftp_capture.specs.CaptureText.{Header, Datagram, head_line, end_line, service_line, datagram_line, dir_word, line_with_host, whole_lines}
use Rattle.tftp_capture.specs.Commented.{Entry, entry_line, said_in}

-- the host in a datagram's line, and the space after it; nothing where the line names none
abbrev pub host_field : Option (List ℕ) → List ℕ
host_field None = []
host_field (Some host) = host ++ codes " "

-- a datagram's line, with this host or with none
abbrev pub line_naming : Option (List ℕ) → Datagram → List ℕ
line_naming None d = datagram_line d
line_naming (Some host) d = line_with_host (record { dir = d.dir; local = d.local; host = host; remote = d.remote; payload = d.payload })

-- such a line up to its digits
abbrev pub head_naming : Option (List ℕ) → Dir → (local remote : ℕ) → List ℕ
head_naming host dir local remote = dir_word dir ++ (codes " " ++ (decimal local ++ (codes " " ++ (host_field host ++ (decimal remote ++ codes " ")))))

-- the header's part of a text
abbrev pub header_text_in : Version → Header → List ℕ
header_text_in version header = whole_lines (head_line version ∷ end_line header.named ∷ service_line header.service ∷ [])

-- the same in version 1
abbrev pub header_text : Header → List ℕ
header_text header = header_text_in One header

-- A header and datagrams were written since the start: their text, but for its total, came after what waited then, and
-- the datagrams are counted.
pub record HasWritten {W : Type 0} (contents : W → Option (List ℕ)) (start now : Sink W) (count : ℕ) (header : Header) (datagrams : List Datagram) : Type 0 where
  pub text : Gathers (contents start.inner) (contents now.inner) start.waits now.waits (header_text header ++ whole_lines (map datagram_line datagrams))
  pub are : count ≡ length datagrams

-- the same in version 2, whose datagrams have their hosts and may have comments between them
pub record HasWrittenHosts {W : Type 0} (contents : W → Option (List ℕ)) (start now : Sink W) (count : ℕ) (header : Header) (entries : List Entry) : Type 0 where
  pub text : Gathers (contents start.inner) (contents now.inner) start.waits now.waits (header_text_in Two header ++ whole_lines (map entry_line entries))
  pub are : count ≡ length (said_in entries)
