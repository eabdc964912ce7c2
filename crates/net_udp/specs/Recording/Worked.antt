-- Frames for worked examples: the acknowledgement of `Frames.Worked`, in two fragments, and recorded twice.
use Rattle.std.specs.Prelude.{ℕ, Bool, List, [], ◌∷◌, ◌++◌, length, map, take, drop, Option, Some, None, true, false}
use Rattle.std.specs.Global.{Vec}
use Rattle.net_udp.specs.Copies.{Packet as Recorded}
use Rattle.net_udp.specs.declared.copies.interface.Interface.{Interface}
use Rattle.net_udp.specs.Fragments.{SetState, nothing_held}
use Rattle.net_udp.specs.declared.fragments.outcome.Outcome.TheVariants.{Apart, Waits}
use Rattle.net_udp.specs.Fragments.Whole.{Content}
use Rattle.net_udp.specs.declared.fragments.content.Content.{Content as Given}
use Rattle.net_udp.specs.declared.fragments.key.Key.{Key}
use Rattle.net_udp.specs.declared.fragments.outcome.Outcome.TheVariants.{Whole}
use Rattle.net_udp.specs.Frames.{Packet, Udp, acknowledgement, cooked_head, host, ipv4_bytes, ipv4_packet, ipv6_part, two_tags, udp_bytes, udp_left}
use Rattle.net_udp.specs.declared.frames.checksum.Checksum.TheVariants.{Right}
use Rattle.net_udp.specs.declared.frames.packet.Direction.TheVariants.{Unknown}
use Rattle.net_udp.specs.declared.frames.packet.Fragment.{Fragment}
use Rattle.net_udp.specs.declared.frames.checksum.Checksum.{Checksum}
use Rattle.net_pcap.specs.{FrameParts}
use Rattle.net_pcap.specs.declared.frame.Direction.TheVariants as recorded
use Rattle.net_udp.specs.Recording.Brought.{nothing_brought}
use Rattle.net_udp.specs.Recording.History.{Step}
use Rattle.net_udp.specs.declared.recording.likeness.Likeness.{Likeness}
use Rattle.net_udp.specs.declared.recording.likeness.Likeness.TheVariants.{New, Doubtful, Copy}
use Rattle.net_udp.specs.declared.recording.sent.Sent.{Sent}

-- ---- in two fragments, of the link type of raw IPv4, recorded at one time

abbrev pub first_bytes : List ℕ
first_bytes = 69 ∷ 0 ∷ 0 ∷ 28 ∷ 0 ∷ 7 ∷ 32 ∷ 0 ∷ 64 ∷ 17 ∷ 214 ∷ 193 ∷ 192 ∷ 0 ∷ 2 ∷ 7 ∷ 192 ∷ 0 ∷ 2 ∷ 1 ∷ 156 ∷ 64 ∷ 0 ∷ 69 ∷ 0 ∷ 12 ∷ 223 ∷ 66 ∷ []

abbrev pub last_bytes : List ℕ
last_bytes = 69 ∷ 0 ∷ 0 ∷ 24 ∷ 0 ∷ 7 ∷ 0 ∷ 1 ∷ 64 ∷ 17 ∷ 246 ∷ 196 ∷ 192 ∷ 0 ∷ 2 ∷ 7 ∷ 192 ∷ 0 ∷ 2 ∷ 1 ∷ 0 ∷ 4 ∷ 0 ∷ 1 ∷ []

abbrev pub first_part : Packet
first_part = record (ipv4_packet Unknown first_bytes) { fragment = Some (record { id = 7; place = 0; more = true }); content = 156 ∷ 64 ∷ 0 ∷ 69 ∷ 0 ∷ 12 ∷ 223 ∷ 66 ∷ [] }

abbrev pub last_part : Packet
last_part = record (ipv4_packet Unknown last_bytes) { fragment = Some (record { id = 7; place = 8; more = false }); content = 0 ∷ 4 ∷ 0 ∷ 1 ∷ [] }

abbrev pub worked_time : Option ℕ
worked_time = Some 1000000000

-- the first interface of a section, 0 in a classic recording
abbrev pub first_of : ℕ → Interface
first_of section = record { section = section; number = 0; index = 0 }

abbrev pub raw_frame : List ℕ → FrameParts
raw_frame bytes = record { section = 0; interface = 0; link = 228; time = worked_time; direction = recorded.Unknown; damaged = false; missed = 0; original = length bytes; bytes = bytes }

abbrev pub worked_key : Key
worked_key = record { source = host 7; target = host 1; protocol = Some 17; id = 7 }

-- what waits after the first fragment
abbrev pub first_set : SetState
first_set = record { held = record { cells = map (λ b. Some b) first_part.content; ended = false; protocol = Some 17 }; frames = 1 ∷ []; extents = record { place = 0; end = 8; protocol = 17 } ∷ []; began = worked_time; spoiled = false }

abbrev pub recorded_first : Recorded
recorded_first = record { interface = first_of 0; time = worked_time; bytes = first_bytes }

-- the host of all of these frames sent a datagram with such a checksum
abbrev pub sent_with : Checksum → Option Sent
sent_with checksum = Some (record { host = host 7; checksum = checksum })

-- the first fragment waits
abbrev pub first_step : Step
first_step = record { frame = raw_frame first_bytes; likeness = New; brought = record nothing_brought { outcome = Some Waits }; waits = (worked_key, first_set) ∷ []; came = recorded_first ∷ []; sent = None; is_discarded = false }

abbrev pub worked_content : Content
worked_content = record { protocol = 17; bytes = udp_bytes }

-- the last one gives a content, of those frames, and none waits
abbrev pub last_step : Given → Vec ℕ → Step
last_step content frames = record { frame = raw_frame last_bytes; likeness = New; brought = record nothing_brought { outcome = Some (Whole content frames) }; waits = []; came = record { interface = first_of 0; time = worked_time; bytes = last_bytes } ∷ recorded_first ∷ []; sent = sent_with Right; is_discarded = false }

-- ---- the last fragment of a packet of IPv6, which names ICMP (58), of the link type of raw IPv6

abbrev pub last_of_icmp : List ℕ
last_of_icmp = 96 ∷ 0 ∷ 0 ∷ 0 ∷ 0 ∷ 12 ∷ 44 ∷ 64 ∷ 32 ∷ 1 ∷ 13 ∷ 184 ∷ 0 ∷ 0 ∷ 0 ∷ 0 ∷ 0 ∷ 0 ∷ 0 ∷ 0 ∷ 0 ∷ 0 ∷ 0 ∷ 7 ∷ 32 ∷ 1 ∷ 13 ∷ 184 ∷ 0 ∷ 0 ∷ 0 ∷ 0 ∷ 0 ∷ 0 ∷ 0 ∷ 0 ∷ 0 ∷ 0 ∷ 0 ∷ 1 ∷ 58 ∷ 0 ∷ 0 ∷ 8 ∷ 0 ∷ 0 ∷ 0 ∷ 7 ∷ 0 ∷ 4 ∷ 0 ∷ 1 ∷ []

-- the fragment, of the packet with identification 7
abbrev pub last_named : Fragment
last_named = record { id = 7; place = 8; more = false }

abbrev pub part_of_icmp : Packet
part_of_icmp = record ipv6_part { protocol = 58; fragment = Some last_named; content = 0 ∷ 4 ∷ 0 ∷ 1 ∷ []; packet = last_of_icmp }

-- the same, which names UDP
abbrev pub part_of_udp : Packet
part_of_udp = record part_of_icmp { protocol = 17 }

abbrev pub icmp_frame : FrameParts
icmp_frame = record { section = 0; interface = 0; link = 229; time = worked_time; direction = recorded.Unknown; damaged = false; missed = 0; original = length last_of_icmp; bytes = last_of_icmp }

-- the content that is put together, where the first fragment names ICMP
abbrev pub icmp_content : Content
icmp_content = record { protocol = 58; bytes = udp_bytes }

-- ---- a block of data in IPv6, of which a fragment begins in the one before and has the same bytes there, of the link type of
-- raw IPv6; tshark tells that they overlap

abbrev pub data_of_ipv6 : List ℕ
data_of_ipv6 = 156 ∷ 64 ∷ 0 ∷ 69 ∷ 0 ∷ 24 ∷ 199 ∷ 110 ∷ 0 ∷ 3 ∷ 0 ∷ 1 ∷ 104 ∷ 101 ∷ 108 ∷ 108 ∷ 111 ∷ 44 ∷ 32 ∷ 119 ∷ 111 ∷ 114 ∷ 108 ∷ 100 ∷ []

abbrev pub begun_bytes : List ℕ
begun_bytes = 96 ∷ 0 ∷ 0 ∷ 0 ∷ 0 ∷ 24 ∷ 44 ∷ 64 ∷ 32 ∷ 1 ∷ 13 ∷ 184 ∷ 0 ∷ 0 ∷ 0 ∷ 0 ∷ 0 ∷ 0 ∷ 0 ∷ 0 ∷ 0 ∷ 0 ∷ 0 ∷ 7 ∷ 32 ∷ 1 ∷ 13 ∷ 184 ∷ 0 ∷ 0 ∷ 0 ∷ 0 ∷ 0 ∷ 0 ∷ 0 ∷ 0 ∷ 0 ∷ 0 ∷ 0 ∷ 1 ∷ 17 ∷ 0 ∷ 0 ∷ 1 ∷ 0 ∷ 0 ∷ 0 ∷ 7 ∷ take 16 data_of_ipv6

abbrev pub across_bytes : List ℕ
across_bytes = 96 ∷ 0 ∷ 0 ∷ 0 ∷ 0 ∷ 24 ∷ 44 ∷ 64 ∷ 32 ∷ 1 ∷ 13 ∷ 184 ∷ 0 ∷ 0 ∷ 0 ∷ 0 ∷ 0 ∷ 0 ∷ 0 ∷ 0 ∷ 0 ∷ 0 ∷ 0 ∷ 7 ∷ 32 ∷ 1 ∷ 13 ∷ 184 ∷ 0 ∷ 0 ∷ 0 ∷ 0 ∷ 0 ∷ 0 ∷ 0 ∷ 0 ∷ 0 ∷ 0 ∷ 0 ∷ 1 ∷ 17 ∷ 0 ∷ 0 ∷ 8 ∷ 0 ∷ 0 ∷ 0 ∷ 7 ∷ drop 8 data_of_ipv6

abbrev pub begun_named : Fragment
begun_named = record { id = 7; place = 0; more = true }

abbrev pub begun_part : Packet
begun_part = record ipv6_part { fragment = Some begun_named; content = take 16 data_of_ipv6; packet = begun_bytes }

abbrev pub across_part : Packet
across_part = record ipv6_part { fragment = Some last_named; content = drop 8 data_of_ipv6; packet = across_bytes }

abbrev pub data_key : Key
data_key = record { source = ipv6_part.source; target = ipv6_part.target; protocol = None; id = 7 }

-- what waits after the first of them, and what is known after the second
abbrev pub begun_set : SetState
begun_set = record { held = record { cells = map (λ b. Some b) begun_part.content; ended = false; protocol = Some 17 }; frames = 1 ∷ []; extents = record { place = 0; end = 16; protocol = 17 } ∷ []; began = worked_time; spoiled = false }

abbrev pub torn_set : SetState
torn_set = record { held = nothing_held; frames = []; extents = []; began = worked_time; spoiled = true }

abbrev pub frame_of_ipv6 : List ℕ → FrameParts
frame_of_ipv6 bytes = record icmp_frame { original = length bytes; bytes = bytes }

abbrev pub begun_step : Step
begun_step = record { frame = frame_of_ipv6 begun_bytes; likeness = New; brought = record nothing_brought { outcome = Some Waits }; waits = (data_key, begun_set) ∷ []; came = record recorded_first { bytes = begun_bytes } ∷ []; sent = None; is_discarded = false }

-- the second is left out, with these frames
abbrev pub across_step : Vec ℕ → Step
across_step frames = record {
  frame = frame_of_ipv6 across_bytes;
  likeness = New;
  brought = record nothing_brought { outcome = Some (Apart frames) };
  waits = (data_key, torn_set) ∷ [];
  came = record recorded_first { bytes = across_bytes } ∷ record recorded_first { bytes = begun_bytes } ∷ [];
  sent = None;
  is_discarded = false;
}

-- ---- recorded at the first interface of a section, of Ethernet, and then at the second, of Linux cooked

abbrev pub recorded_at : ℕ → ℕ → Recorded
recorded_at number time = record { interface = record (first_of 1) { number = number }; time = Some time; bytes = ipv4_bytes }

abbrev pub ethernet_step : ℕ → Step
ethernet_step time = record {
  frame = record { section = 1; interface = 0; link = 1; time = Some time; direction = recorded.Unknown; damaged = false; missed = 0; original = length (two_tags ++ ipv4_bytes); bytes = two_tags ++ ipv4_bytes };
  likeness = New;
  brought = nothing_brought;
  waits = [];
  came = recorded_at 0 time ∷ [];
  sent = sent_with Right;
  is_discarded = false;
}

-- a copy tells nothing
abbrev pub cooked_sent : Likeness → Option Sent
cooked_sent New = sent_with Right
cooked_sent Doubtful = sent_with Right
cooked_sent Copy = None

abbrev pub cooked_step : Likeness → ℕ → ℕ → ℕ → Step
cooked_step likeness number before time = record {
  frame = record { section = 1; interface = number; link = 113; time = Some time; direction = recorded.Unknown; damaged = false; missed = 0; original = length (cooked_head ++ ipv4_bytes); bytes = cooked_head ++ ipv4_bytes };
  likeness = likeness;
  brought = nothing_brought;
  waits = [];
  came = recorded_at number time ∷ recorded_at 0 before ∷ [];
  sent = cooked_sent likeness;
  is_discarded = false;
}

-- ---- with a byte changed on its way, so that it acknowledges block 2, and with a checksum that is left to the network card

abbrev pub spoilt_bytes : List ℕ
spoilt_bytes = 69 ∷ 0 ∷ 0 ∷ 32 ∷ 0 ∷ 7 ∷ 0 ∷ 0 ∷ 64 ∷ 17 ∷ 246 ∷ 189 ∷ 192 ∷ 0 ∷ 2 ∷ 7 ∷ 192 ∷ 0 ∷ 2 ∷ 1 ∷ 156 ∷ 64 ∷ 0 ∷ 69 ∷ 0 ∷ 12 ∷ 223 ∷ 66 ∷ 0 ∷ 4 ∷ 0 ∷ 2 ∷ []

abbrev pub spoilt_packet : Packet
spoilt_packet = record (ipv4_packet Unknown spoilt_bytes) { content = 156 ∷ 64 ∷ 0 ∷ 69 ∷ 0 ∷ 12 ∷ 223 ∷ 66 ∷ 0 ∷ 4 ∷ 0 ∷ 2 ∷ [] }

abbrev pub spoilt_acknowledgement : Udp
spoilt_acknowledgement = record acknowledgement { payload = 0 ∷ 4 ∷ 0 ∷ 2 ∷ [] }

abbrev pub left_bytes : List ℕ
left_bytes = 69 ∷ 0 ∷ 0 ∷ 32 ∷ 0 ∷ 7 ∷ 0 ∷ 0 ∷ 64 ∷ 17 ∷ 246 ∷ 189 ∷ 192 ∷ 0 ∷ 2 ∷ 7 ∷ 192 ∷ 0 ∷ 2 ∷ 1 ∷ 156 ∷ 64 ∷ 0 ∷ 69 ∷ 0 ∷ 12 ∷ 132 ∷ 38 ∷ 0 ∷ 4 ∷ 0 ∷ 1 ∷ []

abbrev pub left_packet : Packet
left_packet = record (ipv4_packet Unknown left_bytes) { content = udp_left }

abbrev pub recorded_raw : List ℕ → Recorded
recorded_raw bytes = record recorded_first { bytes = bytes }

-- such a frame, after those packets
abbrev pub raw_step : List ℕ → Checksum → Bool → List Recorded → Step
raw_step bytes checksum is_discarded before = record {
  frame = raw_frame bytes;
  likeness = New;
  brought = nothing_brought;
  waits = [];
  came = recorded_raw bytes ∷ before;
  sent = sent_with checksum;
  is_discarded = is_discarded;
}
