-- Recordings are read in one way: what it is that two readings say the same.
use Rattle.std.specs.Prelude.{◌≡◌, ◌↔◌, ℕ, List, [], ◌∷◌}
use Rattle.net_udp.specs.Fragments.{Sets, frames_of as waiting_of, set_at}
use Rattle.net_udp.specs.declared.fragments.key.Key.{Key}
use Rattle.net_pcap.specs.{IsRecording, FailsAs, FaultKind}
use Rattle.net_udp.specs.Recording.Fates.{IsFateOf, sharers}
use Rattle.net_udp.specs.Recording.History.{IsHistory, Step, frames_of}
use Rattle.net_udp.specs.declared.recording.fate.Datagram.{Datagram as Given}
use Rattle.net_udp.specs.declared.recording.fate.Fate.{Fate}
use Rattle.net_udp.specs.declared.recording.fate.Fate.TheVariants.{Datagram, Discarded, Left, Waits}

-- the bytes are a recording, and this became of its frames
pub record IsRead (bytes : List ℕ) (history : List Step) : Type 0 where
  pub recording : IsRecording bytes (frames_of history)
  pub became : IsHistory history

-- the bytes have that fault, and this became of the frames before it
pub record IsReadTo (kind : FaultKind) (bytes : List ℕ) (history : List Step) : Type 0 where
  pub fails : FailsAs bytes (frames_of history) kind
  pub became : IsHistory history

-- the two are the same datagram
pub record IsSameDatagram (d e : Given) : Type 0 where
  pub direction : d.direction ≡ e.direction
  pub source : d.source ≡ e.source
  pub source_port : d.source_port ≡ e.source_port
  pub target : d.target ≡ e.target
  pub target_port : d.target_port ≡ e.target_port
  pub payload : d.payload.now ≡ e.payload.now

-- the same became of two frames
abbrev pub IsSameFate : Fate → Fate → Type 0
IsSameFate (Datagram d) other = (e : Given) × (other ≡ Datagram e) × IsSameDatagram d e
IsSameFate (Left why) other = other ≡ Left why
IsSameFate Waits other = other ≡ Waits
IsSameFate (Discarded d) other = (e : Given) × (other ≡ Discarded e) × IsSameDatagram d e

-- the frames that wait under a key
abbrev pub frames_at : Key → Sets → List ℕ
frames_at key sets = waiting_of (set_at key sets)

-- two readings tell the same of a frame: the same became of it, it tells the same of who sent its datagram, it is of the same
-- frames, and the same frames were too old, or had to make room
pub record IsToldAlike (some other : Step) : Type 0 where
  pub frame : some.frame ≡ other.frame
  pub likeness : some.likeness ≡ other.likeness
  pub fate : (fate same : Fate) → IsFateOf some.frame some.likeness some.brought.outcome some.is_discarded fate → IsFateOf other.frame other.likeness other.brought.outcome other.is_discarded same → IsSameFate fate same
  pub sent : some.sent ≡ other.sent
  pub sharers : sharers some.brought.outcome ≡ sharers other.brought.outcome
  pub old : some.brought.old ≡ other.brought.old
  pub ousted : (key : Key) → frames_at key some.brought.ousted ≡ frames_at key other.brought.ousted
  pub made_room : (some.brought.ousted ≡ []) ↔ (other.brought.ousted ≡ [])

-- the same of each frame, of which there are as many
abbrev pub AreToldAlike : List Step → List Step → Type 0
AreToldAlike [] [] = Unit {0}
AreToldAlike [] (other ∷ others) = ⊥
AreToldAlike (step ∷ before) [] = ⊥
AreToldAlike (step ∷ before) (other ∷ others) = IsToldAlike step other × AreToldAlike before others
