-- The lines that are told of a recording as a whole, as exact text.
use Rattle.std.specs.Prelude.{◌==◌, ◌++◌, ℕ, List, [], ◌∷◌, Option, Some, None, codes, decimal, flat_map, nat_lt, if◌then◌else◌}
use Rattle.std.specs.Net.Addr.{segments_of}
use Rattle.std.specs.Net.Text.{ipv4_text, ipv6_text}
use Rattle.net_pcap.specs.{FaultKind, PcapFault}
use Rattle.net_pcap.specs.declared.fault.FaultKind.TheVariants.{Bad, Memory, NotARecording, Read, TooLong, TooMany, Truncated}
use Rattle.net_udp.specs.Frames.Unread.{header_name}
use Rattle.net_udp.specs.declared.frames.unread.UnreadHeader.{UnreadHeader}
use Rattle.audit_flows.specs.{Address, Endpoint, V4, V6}
use Rattle.audit_recording.specs.Session.Hidden.{Hidden, frames_behind, headers_of}
use Rattle.audit_recording.specs.Session.Noted.{Noticed, told_in}
use Rattle.audit_recording.specs.Session.Strays.{Stray, begun_pairs}
use Rattle.audit_recording.specs.Session.Told.{Told, count_of, first_five}
use Rattle.audit_recording.specs.declared.session.begun.Begun.{Begun}
use Rattle.audit_recording.specs.declared.session.begun.Pair.{Pair}
use Rattle.audit_recording.specs.declared.session.behind.Behind.{Behind}
use Rattle.audit_recording.specs.declared.session.behind.Kind.{Kind}

-- ---- numbers

abbrev pub further_number : ℕ → List ℕ
further_number n = codes ", " ++ decimal n

-- a space before the first, and a comma before each further one
abbrev pub numbers_text : List ℕ → List ℕ
numbers_text [] = []
numbers_text (n ∷ further) = codes " " ++ (decimal n ++ flat_map further_number further)

-- none where nothing looks like a request
abbrev pub ports_text : List ℕ → Option (List ℕ)
ports_text [] = None
ports_text (port ∷ further) = Some (numbers_text (port ∷ further))

-- ---- frames of which one thing is told

abbrev pub counted_text : ℕ → List ℕ
counted_text count = decimal count ++ (if count == 1 then codes " datagram " else codes " datagrams ")

abbrev pub which_text : ℕ → List ℕ
which_text count = if count == 1 then codes " (frame" else codes " (frames"

-- the end of the brackets, where some are not named
abbrev pub more_text : ℕ → List ℕ
more_text count = if nat_lt 5 count then codes " ..)" else codes ")"

-- the first of so many frames, in brackets
abbrev pub named_text : ℕ → List ℕ → List ℕ
named_text count first = which_text count ++ (numbers_text first ++ more_text count)

-- as `2 datagrams left out as copies (frames 3, 8)`
abbrev pub line_by : ℕ → List ℕ → List ℕ → List ℕ
line_by count first what = counted_text count ++ (what ++ named_text count first)

-- one line, and none where there are none
abbrev pub lines_by : ℕ → List ℕ → List ℕ → List (List ℕ)
lines_by count first what = if count == 0 then [] else line_by count first what ∷ []

-- what is told of these frames, the newest first
abbrev pub lines_of : List ℕ → List ℕ → List (List ℕ)
lines_of frames what = lines_by (count_of frames) (first_five frames) what

-- ---- what began before the recording

-- four numbers with dots between them (RFC 1123, section 2.1), or groups of an IPv6 address (RFC 5952) in brackets (RFC 3986, section 3.2.2)
abbrev pub host_text : Address → List ℕ
host_text (V4 bytes) = ipv4_text bytes
host_text (V6 bytes) = codes "[" ++ (ipv6_text (segments_of bytes) ++ codes "]")

abbrev pub end_text : Endpoint → List ℕ
end_text end = host_text end.address ++ (codes ":" ++ decimal end.port)

abbrev pub ends_text : Pair → List ℕ
ends_text p = codes " datagrams between " ++ (end_text p.one ++ (codes " and " ++ end_text p.other))

abbrev pub from_to_text : Pair → List ℕ
from_to_text p = codes " (frames " ++ (decimal p.first ++ (codes " to " ++ (decimal p.last ++ codes ")")))

abbrev pub pair_line : Pair → List ℕ
pair_line p = decimal p.count ++ (ends_text p ++ (codes " look like a transfer that began before the recording" ++ from_to_text p))

-- of two endpoints between which at least three datagrams passed that go on as a transfer does
abbrev pub pair_lines : Pair → List (List ℕ)
pair_lines p = if nat_lt p.count 3 then [] else pair_line p ∷ []

abbrev pub begun_lines : Begun → List (List ℕ)
begun_lines b = flat_map pair_lines b.pairs.items

-- of all that is of no transfer, the newest first
abbrev pub begun_told : List Stray → List (List ℕ)
begun_told strays = flat_map pair_lines (begun_pairs strays)

-- ---- behind a header that is not read

abbrev pub behind_words : UnreadHeader → List ℕ
behind_words header = codes "behind " ++ (header_name header ++ codes ", which is not read")

abbrev pub kind_lines : Kind → List (List ℕ)
kind_lines k = lines_by k.frames.count k.frames.first.items (behind_words k.header)

abbrev pub behind_lines : Behind → List (List ℕ)
behind_lines b = flat_map kind_lines b.kinds.items

-- of all frames behind such headers, the newest first: a line for each header, in the order of their first frames
abbrev pub behind_told : List Hidden → List (List ℕ)
behind_told hidden = flat_map (λ header. lines_of (frames_behind header hidden) (behind_words header)) (headers_of hidden)

-- ---- why datagrams may be missing

abbrev pub packets_text : ℕ → List ℕ
packets_text count = if count == 1 then codes " packet" else codes " packets"

abbrev pub dropped_line : ℕ → List ℕ
dropped_line count = codes "the recorder lost " ++ (decimal count ++ (packets_text count ++ codes ", so that datagrams may be missing"))

-- how many packets the recorder lost, if any
abbrev pub dropped_lines : ℕ → List (List ℕ)
dropped_lines count = if count == 0 then [] else dropped_line count ∷ []

abbrev pub fault_words : FaultKind → List ℕ
fault_words NotARecording = codes "no recording"
fault_words Truncated = codes "the recording is cut"
fault_words Bad = codes "a wrong header or block"
fault_words TooLong = codes "a frame or a block that is too long"
fault_words TooMany = codes "too many records or blocks"
fault_words Read = codes "a read failed"
fault_words Memory = codes "out of memory"

abbrev pub fault_line : PcapFault → List ℕ
fault_line fault = codes "frame " ++ (decimal fault.frame ++ (codes ": " ++ fault_words fault.kind))

-- at which frame the reading stopped, and why
abbrev pub fault_lines : Option PcapFault → List (List ℕ)
fault_lines None = []
fault_lines (Some fault) = fault_line fault ∷ []

-- ---- the whole

-- what was left out of what was read
abbrev pub left_out_lines : Told → List (List ℕ)
left_out_lines t =
    lines_of t.copies (codes "left out as copies")
    ++ (lines_of t.discarded (codes "with a wrong checksum, that a host discarded")
    ++ lines_of t.other_links (codes "of another link type"))

-- what is of no transfer, or out of order
abbrev pub aside_lines : Noticed → List (List ℕ)
aside_lines s =
    lines_of (told_in s).of_none (codes "of UDP of no transfer")
    ++ (begun_told s.strays
    ++ lines_of s.backwards (codes "older than the one before; reordercap puts them in order"))

-- what was lost
abbrev pub lost_lines : Noticed → ℕ → List (List ℕ)
lost_lines s dropped =
    lines_of (told_in s).lost (codes "not there whole, so that datagrams may be missing")
    ++ (behind_told s.hidden
    ++ dropped_lines dropped)

-- All that is told, where this was noticed of the recording, its recorder lost so many packets, and its reading stopped at this fault, or at
-- none: each kind once, in this order.
abbrev pub lines_told : Noticed → ℕ → Option PcapFault → List (List ℕ)
lines_told s dropped fault = left_out_lines (told_in s) ++ (aside_lines s ++ (lost_lines s dropped ++ fault_lines fault))
