-- What is noted of a recording, and what is kept of it. Lists have the newest first.
use Rattle.std.specs.Prelude.{◌≡◌, ◌≤◌, ◌++◌, ◌==◌, not, max, ℕ, Bool, true, false, List, [], ◌∷◌, Option, Some, None, MatchOption, filter, map, nat_lt, unwrap_or, if◌then◌else◌}
use Rattle.std.specs.declared.net.ip_addr.IpAddr.{IpAddr}
use Rattle.net_udp.specs.Fragments.{Sets}
use Rattle.net_udp.specs.Frames.{HasUnread, IsBetween}
use Rattle.net_udp.specs.Recording.{EventState}
use Rattle.net_udp.specs.Recording.Fates.{sharers}
use Rattle.net_udp.specs.declared.frames.fault.FrameFault.TheVariants as frame
use Rattle.net_udp.specs.declared.frames.fault.UdpFault.TheVariants as udp
use Rattle.net_udp.specs.declared.frames.unread.UnreadHeader.{UnreadHeader}
use Rattle.net_udp.specs.declared.recording.fate.LeftOut.{LeftOut}
use Rattle.net_udp.specs.declared.recording.fate.LeftOut.TheVariants.{Copy, Frame, Udp}
use Rattle.audit_recording.specs.declared.blame.passing.Passing.{Passing}
use Rattle.audit_recording.specs.declared.blame.trail.Trail.{Trail}
use Rattle.audit_recording.specs.declared.session.losses.Stretch.{Stretch}
use Rattle.audit_recording.specs.declared.session.notes.Notes.{Notes}
use Rattle.audit_recording.specs.Losses.Noted.{Event, Unread}
use Rattle.audit_recording.specs.Losses.Noted.Event.{Asks, Finds, GivesUp, Loses, Waits}
use Rattle.audit_recording.specs.Losses.Kept.{AreLosses}
use Rattle.audit_recording.specs.Reasons.Clock.{IsClockAfter, last_of}
use Rattle.audit_recording.specs.Session.Beside.{Mark}
use Rattle.audit_recording.specs.Session.Beside.Mark.{Discards}
use Rattle.audit_recording.specs.Session.Discards.{AreDiscardsAfter, Gone}
use Rattle.audit_recording.specs.Session.Hidden.{AreBehindOf, Hidden, hiding}
use Rattle.audit_recording.specs.Session.Strays.{AreBegunOf, Stray, asked_ports, stray_frames}
use Rattle.audit_recording.specs.Session.Told.{AreKindsOf, Told}

-- ---- what was noted

-- The number of the newest frame that was noted as one that asks, waits or is lost; what befell those that are not there whole; the
-- datagrams that their hosts discarded; and the times of the others. The frames that were left out as copies, those of another link type, and
-- those that are older than the one before. The datagrams of no transfer; and the frames that are lost behind a header that is not read. Then
-- what is noted beside the transfers.
pub record Noticed : Type 0 where
  pub last : ℕ
  pub events : List Event
  pub gone : List Gone
  pub times : List ℕ
  pub copies : List ℕ
  pub other_links : List ℕ
  pub backwards : List ℕ
  pub strays : List Stray
  pub hidden : List Hidden
  pub beside : List Mark

abbrev pub nothing_noticed : Noticed
nothing_noticed = record { last = 0; events = []; gone = []; times = []; copies = []; other_links = []; backwards = []; strays = []; hidden = []; beside = [] }

-- the frames that are not there whole: those that are lost, and those that waited in vain
abbrev pub lost_frames : List Event → List ℕ
lost_frames [] = []
lost_frames (Asks host frame ∷ older) = lost_frames older
lost_frames (Loses f ∷ older) = f.frame ∷ lost_frames older
lost_frames (Waits f ∷ older) = lost_frames older
lost_frames (Finds frame clock ∷ older) = lost_frames older
lost_frames (GivesUp frame ∷ older) = frame ∷ lost_frames older

-- what is to be told of them, each by what became of it
abbrev pub told_in : Noticed → Told
told_in s = record {
  copies = s.copies;
  discarded = map (λ g. g.frame) s.gone;
  other_links = s.other_links;
  of_none = stray_frames s.strays;
  backwards = s.backwards;
  lost = lost_frames s.events;
}

-- each that asks, waits or is lost stands in a frame up to this one
abbrev pub AreUpTo : ℕ → List Event → Type 0
AreUpTo last [] = Unit {0}
AreUpTo last (Asks host frame ∷ older) = (frame ≤ last) × AreUpTo last older
AreUpTo last (Loses f ∷ older) = (f.frame ≤ last) × AreUpTo last older
AreUpTo last (Waits f ∷ older) = (f.frame ≤ last) × AreUpTo last older
AreUpTo last (Finds frame clock ∷ older) = AreUpTo last older
AreUpTo last (GivesUp frame ∷ older) = AreUpTo last older

-- They are the notes of what was noticed.
pub record AreNotesOf (n : Notes) (s : Noticed) : Type 0 where
  pub losses : AreLosses n.losses s.events
  pub frames : AreUpTo s.last s.events
  pub discards : AreDiscardsAfter n.discards s.gone
  pub clock : IsClockAfter n.clock s.times
  pub kinds : AreKindsOf n.kinds (told_in s)
  pub behind : AreBehindOf n.behind s.hidden
  pub begun : AreBegunOf n.begun s.strays
  pub asked : n.asked.items ≡ asked_ports s.strays

-- ---- one more

-- in that frame a client asks, or a fragment waits, or something is lost
abbrev pub noting : Event → ℕ → Noticed → Noticed
noting e frame s = record s { last = frame; events = e ∷ s.events }

-- each of these frames, the first of them first
abbrev pub one_by_one : (ℕ → Event) → List ℕ → List Event → List Event
one_by_one how [] older = older
one_by_one how (n ∷ frames) older = one_by_one how frames (how n ∷ older)

-- the packets of these frames are there whole, when the clock stands so
abbrev pub finding : ℕ → List ℕ → Noticed → Noticed
finding clock frames s = record s { events = one_by_one (λ n. Finds n clock) frames s.events }

-- these frames have waited in vain
abbrev pub giving_up : List ℕ → Noticed → Noticed
giving_up frames s = record s { events = one_by_one GivesUp frames s.events }

-- the frames of all these sets of fragments
abbrev pub frames_in : Sets → List ℕ
frames_in [] = []
frames_in (set ∷ sets) = set.1.frames ++ frames_in sets

abbrev pub with_time : Option ℕ → List ℕ → List ℕ
with_time None times = times
with_time (Some time) times = time ∷ times

-- its frame, where its time is before that of the datagram before
abbrev pub going_back : ℕ → Option ℕ → List ℕ → List ℕ → List ℕ
going_back frame None times older = older
going_back frame (Some time) times older = if nat_lt time (last_of times) then frame ∷ older else older

-- a datagram has passed
abbrev pub passing_by : Passing → Noticed → Noticed
passing_by p s = record s {
  times = with_time p.time s.times;
  backwards = going_back p.frame p.time s.times s.backwards;
}

-- a datagram is of no transfer
abbrev pub leaving_aside : Stray → Noticed → Noticed
leaving_aside d s = record s { strays = d ∷ s.strays }

-- a datagram was discarded
abbrev pub going : Gone → Noticed → Noticed
going g s = record s { gone = g ∷ s.gone; beside = Discards g ∷ s.beside }

-- ---- one frame

-- the hosts between which the event's frame went, where it has a whole IP header
abbrev pub AreHostsOf : EventState → Option (IpAddr × IpAddr) → Type 0
AreHostsOf event hosts = MatchOption hosts
    ((source target : IpAddr) → IsBetween event.frame.parts.link event.frame.parts.bytes source target → ⊥)
    (λ hosts. IsBetween event.frame.parts.link event.frame.parts.bytes hosts.0 hosts.1)

-- the header at which the reading of the event's frame ends, where it has one
abbrev pub IsHeaderOf : EventState → Option UnreadHeader → Type 0
IsHeaderOf event header = MatchOption header
    ((u : UnreadHeader) → HasUnread event.frame.parts.link event.frame.parts.bytes u → ⊥)
    (λ u. HasUnread event.frame.parts.link event.frame.parts.bytes u)

-- when a frame passed: at its time, or that of the datagram before it, but not before what the clock has reached
abbrev pub moment_in : ℕ → EventState → List ℕ → ℕ
moment_in reached event times = max (unwrap_or event.frame.parts.time (last_of times)) reached

abbrev pub unread_in : ℕ → EventState → Option (IpAddr × IpAddr) → List ℕ → Unread
unread_in reached event hosts times = record { frame = event.frame.number; hosts = hosts; time = moment_in reached event times }

abbrev pub sharers_of : EventState → List ℕ
sharers_of event = sharers event.brought.outcome

-- these frames, but for that one
abbrev pub others : ℕ → List ℕ → List ℕ
others frame frames = filter (λ n. not (n == frame)) frames

-- the frame of the event is lost, behind that header, if it has one; and with it those that share its fate
abbrev pub losing : ℕ → EventState → Option (IpAddr × IpAddr) → Option UnreadHeader → Noticed → Noticed
losing reached event hosts header s =
    record (noting (Loses (unread_in reached event hosts s.times)) event.frame.number (giving_up (others event.frame.number (sharers_of event)) s)) {
      hidden = hiding header event.frame.number s.hidden;
    }

-- ---- what is left out

-- it may have been a datagram, or a part of one, and can't be read
abbrev pub may_be_datagram : LeftOut → Bool
may_be_datagram (Frame frame.Link) = false
may_be_datagram (Frame frame.Network) = false
may_be_datagram (Frame frame.Protocol) = false
may_be_datagram (Udp udp.Port) = false
may_be_datagram Copy = false
may_be_datagram _ = true

-- it is read, and is none: so no other frame of its packet is missing
abbrev pub is_none : LeftOut → Bool
is_none (Frame frame.Network) = true
is_none (Frame frame.Protocol) = true
is_none (Udp udp.Port) = true
is_none _ = false

abbrev pub copies_with : LeftOut → ℕ → List ℕ → List ℕ
copies_with Copy n older = n ∷ older
copies_with _ n older = older

abbrev pub other_links_with : LeftOut → ℕ → List ℕ → List ℕ
other_links_with (Frame frame.Link) n older = n ∷ older
other_links_with _ n older = older

-- the frame is a copy, or of another link type, where that is why
abbrev pub keeping : LeftOut → ℕ → Noticed → Noticed
keeping why n s = record s { copies = copies_with why n s.copies; other_links = other_links_with why n s.other_links }

-- what is left out that is no loss
abbrev pub leaving : ℕ → LeftOut → EventState → Noticed → Noticed
leaving reached why event s = keeping why event.frame.number (if is_none why then finding reached (sharers_of event) s else s)

-- ---- of a transfer

-- what the recording has of it
abbrev pub stretch_of : Trail → Stretch
stretch_of t = record { client = t.transfer.client.address; first = t.first; last = t.last; last_time = t.last_time }
