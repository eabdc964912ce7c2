-- A recording for a worked example. Host 192.0.2.7 sends from port 40000 to port 69 of 192.0.2.1: the first fragment of an acknowledgement,
-- at second 1, a request for file `a`, at second 2, the last fragment of the acknowledgement, at second 3, and a fragment that brings no
-- byte, of which no time is known.
use Rattle.std.specs.Prelude.{◌*◌, ℕ, true, false, List, [], ◌∷◌, Option, Some, None, map}
use Rattle.std.specs.Global.{Vec}
use Rattle.net_pcap.specs.{FrameParts}
use Rattle.net_udp.specs.Frames.{Packet, Udp, host, ipv4_packet}
use Rattle.net_udp.specs.Recording.{Step, across_step, begun_step, data_key, first_bytes, last_bytes, nothing_brought, raw_frame, sent_with}
use Rattle.net_udp.specs.declared.fragments.content.Content.{Content}
use Rattle.net_udp.specs.declared.fragments.outcome.Outcome.{Outcome}
use Rattle.net_udp.specs.declared.fragments.outcome.Outcome.TheVariants.{Empty, Waits, Whole}
use Rattle.net_udp.specs.declared.frames.checksum.Checksum.TheVariants.{Right}
use Rattle.net_udp.specs.declared.frames.packet.Direction.TheVariants.{Unknown}
use Rattle.net_udp.specs.declared.frames.unread.UnreadHeader.TheVariants.{Esp, MacSec}
use Rattle.net_udp.specs.declared.recording.likeness.Likeness.TheVariants.{Copy, New}
use Rattle.net_udp.specs.declared.recording.sent.Sent.{Sent}
use Rattle.audit_flows.specs.Transfers.{ack_of, client, read_of, service}
use Rattle.audit_recording.specs.Blame.Frames.{Carried}
use Rattle.audit_recording.specs.Losses.Noted.{Unread}
use Rattle.audit_recording.specs.Losses.Noted.Event.{Asks, Finds, GivesUp, Loses, Waits as Awaits}
use Rattle.audit_recording.specs.Reasons.Unplaced.{worked_end}
use Rattle.audit_recording.specs.Endings.Worked.{asked_first}
use Rattle.audit_recording.specs.Session.Beside.Mark.{Begins, Joins}
use Rattle.audit_recording.specs.Session.Hidden.{Hidden}
use Rattle.audit_recording.specs.Session.Noted.{Noticed, nothing_noticed}
use Rattle.audit_recording.specs.Session.Strays.{Stray}

-- ---- the request, made by Python's struct, its checksums by RFC 1071, section 4.1

abbrev pub request_udp : List ℕ
request_udp = 156 ∷ 64 ∷ 0 ∷ 69 ∷ 0 ∷ 18 ∷ 38 ∷ 113 ∷ 0 ∷ 1 ∷ 97 ∷ 0 ∷ 111 ∷ 99 ∷ 116 ∷ 101 ∷ 116 ∷ 0 ∷ []

abbrev pub request_bytes : List ℕ
request_bytes = 69 ∷ 0 ∷ 0 ∷ 38 ∷ 0 ∷ 8 ∷ 0 ∷ 0 ∷ 64 ∷ 17 ∷ 246 ∷ 182 ∷ 192 ∷ 0 ∷ 2 ∷ 7 ∷ 192 ∷ 0 ∷ 2 ∷ 1 ∷ request_udp

abbrev pub request_packet : Packet
request_packet = record (ipv4_packet Unknown request_bytes) { identification = Some 8; content = request_udp }

abbrev pub request : Udp
request = record { source_port = 40000; target_port = 69; payload = read_of (97 ∷ []) }

-- ---- the frames

abbrev pub at_second : ℕ → Option ℕ
at_second n = Some (n * 1000000000)

abbrev pub frame_at : Option ℕ → List ℕ → FrameParts
frame_at time bytes = record (raw_frame bytes) { time = time }

abbrev pub step_of : FrameParts → Option Outcome → Option Sent → Step
step_of frame outcome sent = record {
  frame = frame;
  likeness = New;
  brought = record nothing_brought { outcome = outcome };
  waits = [];
  came = [];
  sent = sent;
  is_discarded = false;
}

-- the content is put together of those frames
abbrev pub worked_steps : Content → Vec ℕ → List Step
worked_steps content frames =
    step_of (frame_at None last_bytes) (Some Empty) None
    ∷ step_of (frame_at (at_second 3) last_bytes) (Some (Whole content frames)) (sent_with Right)
    ∷ step_of (frame_at (at_second 2) request_bytes) None (sent_with Right)
    ∷ step_of (frame_at (at_second 1) first_bytes) (Some Waits) None
    ∷ []

-- ---- their datagrams, and what is noticed

abbrev pub request_carried : Carried
request_carried = record {
  frame = 2;
  time = at_second 2;
  is_doubtful = false;
  has_error = false;
  checksum = Right;
  datagram = record { time = 2000000000; source = client; target = service; payload = read_of (97 ∷ []); is_spelled = true };
}

abbrev pub ack_carried : Carried
ack_carried = record {
  frame = 3;
  time = at_second 3;
  is_doubtful = false;
  has_error = false;
  checksum = Right;
  datagram = record { time = 3000000000; source = client; target = service; payload = ack_of 1; is_spelled = false };
}

-- a frame between the two hosts
abbrev pub unread_at : ℕ → ℕ → Unread
unread_at frame time = record { frame = frame; hosts = Some (host 7, host 1); time = time }

-- Frame 4 is lost: at second 3, the time of the datagram before it. With frame 3 the packet of frames 1 and 3 is there whole; the clock
-- had reached no moment then, since one datagram alone had come. In frame 2 the client asks, and opens transfer 0; both datagrams pass at it.
-- Frame 1 waits.
abbrev pub worked_noticed : Noticed
worked_noticed = record {
  last = 4;
  events = Loses (unread_at 4 3000000000) ∷ Finds 3 0 ∷ Finds 1 0 ∷ Asks client.address 2 ∷ Awaits (unread_at 1 1000000000) ∷ [];
  gone = [];
  times = 3000000000 ∷ 2000000000 ∷ [];
  copies = [];
  other_links = [];
  backwards = [];
  strays = [];
  hidden = [];
  beside = Joins 0 3000000000 ∷ Joins 0 2000000000 ∷ Begins asked_first 2000000000 ∷ [];
}

-- ---- a recording of which three things are told

-- Frame 1 is the fragment that brings no byte, at second 1, frame 2 a copy, and frame 3 of a link type that is not read.
abbrev pub told_steps : List Step
told_steps =
    step_of (record (frame_at None []) { link = 9999 }) None None
    ∷ record (step_of (frame_at None last_bytes) None None) { likeness = Copy }
    ∷ step_of (frame_at (at_second 1) last_bytes) (Some Empty) None
    ∷ []

abbrev pub told_noticed : Noticed
told_noticed = record nothing_noticed { last = 1; events = Loses (unread_at 1 1000000000) ∷ []; copies = 2 ∷ []; other_links = 3 ∷ [] }

-- ---- a packet of IPv6 in two fragments that overlap, so that none is put together of them

-- Frame 1 waits, and with frame 2 both are lost.
abbrev pub torn_steps : Vec ℕ → List Step
torn_steps frames = across_step frames ∷ begun_step ∷ []

-- a frame between its hosts, at second 1
abbrev pub torn_at : ℕ → Unread
torn_at frame = record { frame = frame; hosts = Some (data_key.source, data_key.target); time = 1000000000 }

abbrev pub begun_noticed : Noticed
begun_noticed = record nothing_noticed { last = 1; events = Awaits (torn_at 1) ∷ [] }

abbrev pub torn_noticed : Noticed
torn_noticed = record nothing_noticed { last = 2; events = Loses (torn_at 2) ∷ GivesUp 1 ∷ Awaits (torn_at 1) ∷ [] }

-- ---- frames behind two headers, and datagrams of no transfer

-- frames 2 and 7 are lost behind ESP, and frame 5 behind MACsec
abbrev pub worked_hidden : List Hidden
worked_hidden = record { header = Esp; frame = 7 } ∷ record { header = MacSec; frame = 5 } ∷ record { header = Esp; frame = 2 } ∷ []

-- a datagram of no transfer, from one port of 192.0.2.1 to another
abbrev pub stray_at : ℕ → ℕ → List ℕ → ℕ → Stray
stray_at source target payload frame = record { source = worked_end source; target = worked_end target; payload = payload; frame = frame }

abbrev pub block_1 : List ℕ
block_1 = 0 ∷ 3 ∷ 0 ∷ 1 ∷ 97 ∷ []

-- block 1 goes from port 69 to port 2000 in frame 2, its ACK back in frame 3, a request from port 2000 to port 1069 in frame 4, and the block once
-- more in frame 5
abbrev pub worked_strays : List Stray
worked_strays = stray_at 69 2000 block_1 5 ∷ stray_at 2000 1069 (read_of (97 ∷ [])) 4 ∷ stray_at 2000 69 (ack_of 1) 3 ∷ stray_at 69 2000 block_1 2 ∷ []

-- from each of 17 ports a block goes to port 69
abbrev pub many_strays : List Stray
many_strays = map (λ port. stray_at port 69 block_1 port) (17 ∷ 16 ∷ 15 ∷ 14 ∷ 13 ∷ 12 ∷ 11 ∷ 10 ∷ 9 ∷ 8 ∷ 7 ∷ 6 ∷ 5 ∷ 4 ∷ 3 ∷ 2 ∷ 1 ∷ [])
