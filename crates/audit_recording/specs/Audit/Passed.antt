-- Which datagrams the frames of a recording have given, as the judges of a recording take them. Lists have the newest first.
use Rattle.std.specs.Prelude.{◌≡◌, ◌↔◌, ℕ, List, [], ◌∷◌, true, Option, Some, None}
use Rattle.std.specs.declared.net.ip_addr.IpAddr.{IpAddr}
use Rattle.tftp_packet.specs.{Request, RequestParts, Spells}
use Rattle.audit_views.specs.Parties.{address_of}
use Rattle.net_udp.specs.Recording.{IsFateOf, Step}
use Rattle.net_udp.specs.{Fate, Discarded, Left}
use Rattle.net_udp.specs.declared.recording.fate.Fate.TheVariants.{Waits}
use Rattle.net_udp.specs.declared.recording.fate.Datagram.{Datagram as Given}
use Rattle.net_udp.specs.declared.recording.fate.Fate.TheVariants.{Datagram}
use Rattle.audit_flows.specs.Lines.{Recorded}
use Rattle.audit_flows.specs.{Endpoint}

abbrev pub end_of : IpAddr → ℕ → Endpoint
end_of host port = record { address = address_of host; port = port }

-- the payload is a request from its first byte to its last (RFC 1350, section 5; RFC 2347)
abbrev pub IsRequest : List ℕ → Type 0
IsRequest payload = (r : RequestParts) × Spells payload (Request r)

-- the time of the newest of these datagrams; 0 before any
abbrev pub last_time : List Recorded → ℕ
last_time [] = 0
last_time (d ∷ older) = d.time

-- the time of a frame; where the recording tells none, that of the datagram before it
abbrev pub time_by : Option ℕ → List Recorded → ℕ
time_by (Some time) older = time
time_by None older = last_time older

-- the datagram that was read, as the judges take it
pub record IsTaken (given : Given) (moment : ℕ) (d : Recorded) : Type 0 where
  pub time : d.time ≡ moment
  pub source : d.source ≡ end_of given.source given.source_port
  pub target : d.target ≡ end_of given.target given.target_port
  pub payload : d.payload ≡ given.payload.now
  pub is_spelled : (d.is_spelled ≡ true) ↔ IsRequest given.payload.now

-- What a frame adds, by what became of it: its datagram, or nothing, as where its host discarded it.
abbrev pub Adds : Option ℕ → Fate → List Recorded → List Recorded → Type 0
Adds time (Datagram given) older all = (d : Recorded) × IsTaken given (time_by time older) d × (all ≡ d ∷ older)
Adds time (Left why) older all = all ≡ older
Adds time Waits older all = all ≡ older
Adds time (Discarded given) older all = all ≡ older

-- What has passed is what these frames have given, one after another.
abbrev pub HasPassed : List Step → List Recorded → Type 0
HasPassed [] passed = passed ≡ []
HasPassed (step ∷ before) passed =
    (older : List Recorded) × (fate : Fate) × HasPassed before older × IsFateOf step.frame step.likeness step.brought.outcome step.is_discarded fate
    × Adds step.frame.time fate older passed
