-- What is noted of a recording, frame by frame. Lists have the newest first.
use Rattle.std.specs.Prelude.{◌≡◌, ◌∷◌, ℕ, Bool, true, false, List, [], max, min, Option, unwrap_or}
use Rattle.std.specs.declared.net.ip_addr.IpAddr.{IpAddr}
use Rattle.net_udp.specs.Recording.Alike.{is_doubtful}
use Rattle.net_udp.specs.Recording.{BroughtState, EventState, IsFateOf, Step, checksum_told}
use Rattle.net_udp.specs.declared.frames.unread.UnreadHeader.{UnreadHeader}
use Rattle.net_udp.specs.declared.recording.fate.Datagram.{Datagram as Given}
use Rattle.net_udp.specs.declared.recording.fate.Fate.TheVariants.{Datagram, Discarded, Left, Waits}
use Rattle.net_udp.specs.declared.recording.fate.LeftOut.{LeftOut}
use Rattle.net_udp.specs.{Fate}
use Rattle.audit_flows.specs.declared.lines.place.Place.TheVariants.{Opens, Repeats, Talks, Apart, Beside, Nowhere}
use Rattle.audit_flows.specs.{Place}
use Rattle.audit_recording.specs.Audit.Audited.{IsOfEvent}
use Rattle.audit_recording.specs.Audit.Passed.{IsTaken, end_of, time_by}
use Rattle.audit_recording.specs.Blame.Frames.{Carried, datagrams_of, framed_after}
use Rattle.audit_recording.specs.Losses.Noted.Event.{Asks, Waits as Awaits}
use Rattle.audit_recording.specs.Reasons.Clock.{last_of}
use Rattle.audit_recording.specs.Session.Beside.{Mark}
use Rattle.audit_recording.specs.Session.Beside.Mark.{Begins, Joins, Strays}
use Rattle.audit_recording.specs.Session.Discards.{Gone}
use Rattle.audit_recording.specs.Session.Strays.{Stray}
use Rattle.audit_recording.specs.Session.Noted.{AreHostsOf, IsHeaderOf, Noticed, finding, frames_in, giving_up, going, going_back, leaving, leaving_aside, losing, may_be_datagram, nothing_noticed, noting, sharers_of, unread_in, with_time}

-- the latest moment that two in a row have reached, or 0
abbrev pub reached_by : List ℕ → ℕ
reached_by [] = 0
reached_by (time ∷ []) = 0
reached_by (time ∷ before ∷ older) = max (min time before) (reached_by (before ∷ older))

-- ---- a datagram, in its frame and at its place

-- it is the one that became of the event's frame, after these
pub record IsCarriedBy (event : EventState) (given : Given) (older : List Carried) (c : Carried) : Type 0 where
  pub frame : c.frame ≡ event.frame.number
  pub time : c.time ≡ event.frame.parts.time
  pub is_doubtful : c.is_doubtful ≡ is_doubtful event.likeness
  pub has_error : c.has_error ≡ event.frame.parts.damaged
  pub checksum : c.checksum ≡ checksum_told event.sent
  pub taken : IsTaken given (time_by event.frame.parts.time (datagrams_of older)) c.datagram

-- it has passed
abbrev pub passing_at : Carried → Noticed → Noticed
passing_at c s = record s {
  times = with_time c.time s.times;
  backwards = going_back c.frame c.time s.times s.backwards;
}

-- where it opens a transfer, its client asks
abbrev pub asking : Place → ℕ → Noticed → Noticed
asking (Opens x) frame s = noting (Asks x.client.address frame) frame s
asking place frame s = s

-- where it opens a transfer, at this time
abbrev pub beginning : Place → ℕ → List Mark → List Mark
beginning (Opens x) time marks = Begins x time ∷ marks
beginning place time marks = marks

-- where it passes at a transfer's client
abbrev pub joining : Place → Option ℕ → List Mark → List Mark
joining (Opens x) time marks = Joins x.number (unwrap_or time 0) ∷ marks
joining (Repeats x) time marks = Joins x.number (unwrap_or time 0) ∷ marks
joining (Talks x) time marks = Joins x.number (unwrap_or time 0) ∷ marks
joining place time marks = marks

-- where it is of no client's line: its time is this, or that of the datagram before
abbrev pub straying : Place → Carried → List ℕ → List Mark → List Mark
straying Nowhere c times marks =
    Strays c.datagram.source c.datagram.target c.datagram.payload (record { frame = c.frame; time = unwrap_or c.time (last_of times) })
    (max (unwrap_or c.time (last_of times)) (reached_by times))
    ∷ marks
straying place c times marks = marks

-- what it is beside the transfers, with the times up to its own
abbrev pub marks_with : Place → Carried → List ℕ → List Mark → List Mark
marks_with place c times marks = straying place c times (joining place c.time (beginning place (unwrap_or c.time (last_of times)) marks))

abbrev pub marking : Place → Carried → Noticed → Noticed
marking place c s = record s { beside = marks_with place c s.times s.beside }

-- as one of no transfer
abbrev pub stray_in : Carried → Stray
stray_in c = record { source = c.datagram.source; target = c.datagram.target; payload = c.datagram.payload; frame = c.frame }

-- where it is about no transfer, that is noted
abbrev pub setting_aside : Place → Stray → Noticed → Noticed
setting_aside (Opens x) d s = s
setting_aside (Repeats x) d s = s
setting_aside (Talks x) d s = s
setting_aside (Beside x) d s = s
setting_aside (Apart c) d s = leaving_aside d s
setting_aside Nowhere d s = leaving_aside d s

-- its packet is there whole, it has passed, it is noted beside the transfers, it may ask, and it may be of no transfer
abbrev pub placing : Place → EventState → Carried → Noticed → Noticed
placing place event c s =
    setting_aside place (stray_in c) (asking place c.frame (marking place c (passing_at c (finding (reached_by s.times) (sharers_of event) s))))

-- ---- what is no datagram of a transfer

-- a datagram that its host discarded
abbrev pub gone_by : EventState → Given → List ℕ → Gone
gone_by event given times = record {
  source = end_of given.source given.source_port;
  target = end_of given.target given.target_port;
  frame = event.frame.number;
  time = unwrap_or event.frame.parts.time (last_of times);
}

-- what is left out: it is lost where it may have been a datagram
abbrev pub Leaves : Bool → LeftOut → EventState → Noticed → Noticed → Type 0
Leaves true why event s t =
    (hosts : Option (IpAddr × IpAddr)) × (header : Option UnreadHeader) × AreHostsOf event hosts × IsHeaderOf event header × (t ≡ losing (reached_by s.times) event hosts header s)
Leaves false why event s t = t ≡ leaving (reached_by s.times) why event s

-- a fragment waits for others
abbrev pub BeginsToWait : EventState → Noticed → Noticed → Type 0
BeginsToWait event s t =
    (hosts : Option (IpAddr × IpAddr)) × AreHostsOf event hosts × (t ≡ noting (Awaits (unread_in (reached_by s.times) event hosts s.times)) event.frame.number s)

-- ---- one frame

-- the fragments that had waited too long, and those that had to make room for the frame, have waited in vain
abbrev pub letting_go : BroughtState → Noticed → Noticed
letting_go b s = giving_up (frames_in b.ousted) (giving_up b.old s)

-- What a frame adds, by what became of it: its datagram, or nothing, and what is noted.
abbrev pub AddsOne : List ℕ → EventState → Fate → List Carried → Noticed → List Carried → Noticed → Type 0
AddsOne named event (Datagram given) older s all t =
    (c : Carried) × IsCarriedBy event given older c × (all ≡ c ∷ older) × (t ≡ placing (framed_after named older c).placed.place event c s)
AddsOne named event (Left why) older s all t = (all ≡ older) × Leaves (may_be_datagram why) why event s t
AddsOne named event Waits older s all t = (all ≡ older) × BeginsToWait event s t
AddsOne named event (Discarded given) older s all t = (all ≡ older) × (t ≡ going (gone_by event given s.times) (finding (reached_by s.times) (sharers_of event) s))

-- ---- a recording

-- By these frames, one after another, these datagrams came, and this was noticed. The event is the newest frame with its number.
abbrev pub IsNoticedOf : List ℕ → List Step → List Carried → Noticed → Type 0
IsNoticedOf named [] all t = (all ≡ []) × (t ≡ nothing_noticed)
IsNoticedOf named (step ∷ before) all t =
    (older : List Carried) × (s : Noticed) × (event : EventState) × (fate : Fate) × IsNoticedOf named before older s × IsOfEvent step before event
    × IsFateOf event.frame.parts event.likeness event.brought.outcome event.is_discarded fate × AddsOne named event fate older (letting_go event.brought s) all t
