-- Which datagrams did not arrive, as ICMP tells (RFC 792; RFC 4443, section 3.1), and of which transfers they were. Lists have the newest
-- first; a transfer is known by its number.
use Rattle.std.specs.Prelude.{◌≡◌, ◌+◌, ◌&&◌, ◌||◌, nat_le, ℕ, Bool, false, List, [], ◌∷◌, Option, Some, None, MatchOption, filter, length, if◌then◌else◌}
use Rattle.std.specs.BTreeMap.{get}
use Rattle.std.specs.Ordering.{nat_cmp}
use Rattle.net_pcap.specs.{FrameParts}
use Rattle.net_udp.specs.Frames.Unreachable.{TellsUnreachable}
use Rattle.net_udp.specs.Recording.{EventState, Step}
use Rattle.net_udp.specs.declared.frames.unreachable.Unreachable.{Unreachable}
use Rattle.audit_flows.specs.Lines.{Placed, same_endpoint}
use Rattle.audit_flows.specs.declared.lines.place.Place.TheVariants.{Apart, Beside, Nowhere, Opens, Repeats, Talks}
use Rattle.audit_flows.specs.{Endpoint, Place, Transfer}
use Rattle.audit_flows.specs.Transfers.{server_of}
use Rattle.audit_recording.specs.Audit.Passed.{end_of}
use Rattle.audit_recording.specs.Between.{server_or_asked}
use Rattle.audit_recording.specs.Blame.Frames.{Carried, whole_of}
use Rattle.audit_recording.specs.Judges.{is_among, opened}
use Rattle.audit_recording.specs.Reasons.Unplaced.{is_it}
use Rattle.audit_recording.specs.declared.blame.trail.Trail.{Trail}
use Rattle.audit_recording.specs.declared.blame.undelivered.Undelivered.{Undelivered}
use Rattle.audit_recording.specs.declared.session.unreached.Unreached.{Unreached}

-- ---- what the frames tell

-- the frame tells this, or nothing
abbrev pub TellsIn : FrameParts → Option Unreachable → Type 0
TellsIn frame told = MatchOption told ((u : Unreachable) → TellsUnreachable frame.link frame.bytes u → ⊥) (λ u. TellsUnreachable frame.link frame.bytes u)

-- a datagram that did not arrive, as the frame of that number tells
abbrev pub undelivered_by : ℕ → Unreachable → Undelivered
undelivered_by n u = record {
  frame = n;
  host = (end_of u.from 0).address;
  code = u.code;
  source = end_of u.quoted.source u.quoted.source_port;
  target = end_of u.quoted.target u.quoted.target_port;
}

abbrev pub with_told : Option Unreachable → ℕ → List Undelivered → List Undelivered
with_told None n heard = heard
with_told (Some u) n heard = undelivered_by n u ∷ heard

-- These frames tell of these datagrams, the first frame being 1.
abbrev pub HaveTold : List Step → List Undelivered → Type 0
HaveTold [] heard = heard ≡ []
HaveTold (step ∷ before) heard =
    (older : List Undelivered) × (told : Option Unreachable) × HaveTold before older × TellsIn step.frame told × (heard ≡ with_told told (length before + 1) older)

-- ---- of which transfers they are

-- those that came up to that frame
abbrev pub up_to_frame : ℕ → List Carried → List Carried
up_to_frame n carried = filter (λ c. nat_le c.frame n) carried

-- this one, where the endpoint opens it, or else the one before
abbrev pub or_opened : Endpoint → Place → Option ℕ → Option ℕ
or_opened e (Opens x) older = if same_endpoint x.client e then Some x.number else older
or_opened e (Repeats x) older = older
or_opened e (Talks x) older = older
or_opened e (Apart c) older = older
or_opened e (Beside x) older = older
or_opened e Nowhere older = older

-- the transfer that this endpoint opened last
abbrev pub newest_opened : Endpoint → List Placed → Option ℕ
newest_opened e [] = None
newest_opened e (p ∷ older) = or_opened e p.place (newest_opened e older)

-- the end of the datagram that is not this client's
abbrev pub end_beside : Endpoint → Undelivered → Endpoint
end_beside c u = if same_endpoint u.source c then u.target else u.source

-- it went between the transfer's client and its server, as far as these tell who that is, or whom its client asked
abbrev pub is_between_ends : Transfer → List Placed → Undelivered → Bool
is_between_ends x whole u = same_endpoint (end_beside x.client u) (server_or_asked x (server_of x.number whole)) || same_endpoint (end_beside x.client u) x.asked

-- the same, and an end of it had opened this transfer last
abbrev pub is_of_it : Transfer → List Placed → Undelivered → Bool
is_of_it x whole u = (is_it x.number (newest_opened u.source whole) || is_it x.number (newest_opened u.target whole)) && is_between_ends x whole u

-- The last one that was of the transfer, by what had come when it was told.
abbrev pub undelivered_in : Transfer → List ℕ → List Carried → List Undelivered → Option Undelivered
undelivered_in x named carried [] = None
undelivered_in x named carried (u ∷ older) = if is_of_it x (whole_of named (up_to_frame u.frame carried)) u then Some u else undelivered_in x named carried older

-- by these frames
abbrev pub IsUndeliveredOf : Option Undelivered → Transfer → List ℕ → List Step → List Carried → Type 0
IsUndeliveredOf told x named history carried = (heard : List Undelivered) × HaveTold history heard × (told ≡ undelivered_in x named carried heard)

-- ---- what is kept

-- that of the transfer with this number, where a request opened it
abbrev pub IsUnreached : ℕ → List ℕ → List Carried → List Undelivered → Option Undelivered → Option Transfer → Type 0
IsUnreached n named carried heard told None = told ≡ None
IsUnreached n named carried heard told (Some x) = told ≡ undelivered_in x named carried heard

-- of each that was not handed out
abbrev pub AreUnreachedKept : Unreached → List ℕ → List ℕ → List Step → List Carried → Type 0
AreUnreachedKept unreached named out history carried =
    (heard : List Undelivered) × HaveTold history heard
    × ((n : ℕ) → is_among n out ≡ false → IsUnreached n named carried heard (get nat_cmp unreached.last n) (opened n (whole_of named carried)))

-- it was between the ends of the transfer whose trail this is, if there is one
abbrev pub is_of_trail : Option Trail → List Placed → Undelivered → Bool
is_of_trail None whole u = false
is_of_trail (Some t) whole u = is_between_ends t.transfer whole u

-- the event is of the frame behind these
pub record IsFrameOf (step : Step) (before : List Step) (event : EventState) : Type 0 where
  pub number : event.frame.number ≡ length before + 1
  pub frame : step.frame ≡ event.frame.parts

-- ---- worked

-- what a frame tells of a datagram from the one to the other: that no program was at that port
abbrev pub told_of : ℕ → Endpoint → Endpoint → Undelivered
told_of frame source target = record { frame = frame; host = target.address; code = 3; source = source; target = target }
