-- What is kept of the frames that can't be read, and for which events it stands.
use Rattle.std.specs.Prelude.{◌≡◌, ◌≤◌, ◌⊎◌, ◌==◌, min, ℕ, Bool, true, false, List, Option, Some, None, IsSome, option_map, if◌then◌else◌}
use Rattle.std.specs.BTreeMap.{BTreeMap, get}
use Rattle.std.specs.Ordering.{nat_cmp}
use Rattle.audit_flows.specs.{Address, Endpoint}
use Rattle.audit_flows.specs.Lines.{endpoint_cmp, same_address}
use Rattle.audit_recording.specs.declared.session.host_losses.HostLosses.{HostLosses}
use Rattle.audit_recording.specs.declared.session.losses.Losses.{Losses}
use Rattle.audit_recording.specs.declared.session.losses.Waiting.{Waiting}
use Rattle.audit_recording.specs.Losses.Noted.{Event, IsAsked, IsLost, Unread, is_of_host, is_of_none, waiting_at}

-- ---- of one host, or of unknown ones

-- when the frame with this number passed that is kept as lost
abbrev pub lost_at : Option HostLosses → ℕ → Option ℕ
lost_at None n = None
lost_at (Some l) n = get nat_cmp l.lost n

-- when the one passed that waits
abbrev pub waits_at : Option HostLosses → ℕ → Option ℕ
waits_at None n = None
waits_at (Some l) n = get nat_cmp l.waiting n

-- a frame with this number and time is kept, as lost or as one that waits
abbrev pub IsKept : HostLosses → ℕ → ℕ → Type 0
IsKept l n time = (lost_at (Some l) n ≡ Some time) ⊎ (waits_at (Some l) n ≡ Some time)

abbrev pub asked_at : Option HostLosses → ℕ
asked_at None = 0
asked_at (Some l) = l.asked

-- Of the frames that are lost the first after each request is kept, at least.
pub record KeepsLost (o : Option HostLosses) (IsSuch : Unread → Type 0) (HasAsked : ℕ → Type 0) : Type 0 where
  pub lost : (n time : ℕ) → lost_at o n ≡ Some time → (f : Unread) × IsSuch f × (f.frame ≡ n) × (f.time ≡ time)
  pub first : (f : Unread) → IsSuch f → (n : ℕ) × IsSome (lost_at o n) × (n ≤ f.frame) × ((r : ℕ) → HasAsked r → r ≤ f.frame → r ≤ n)
  pub asked : (r : ℕ) → HasAsked r → r ≤ asked_at o

abbrev pub time_where : (Unread → Bool) → Option Unread → Option ℕ
time_where mine None = None
time_where mine (Some f) = if mine f then Some f.time else None

-- what waits is kept
abbrev pub KeepsWaiting : Option HostLosses → (Unread → Bool) → List Event → Type 0
KeepsWaiting o mine waiting = (n : ℕ) → waits_at o n ≡ time_where mine (waiting_at n waiting)

-- They are those of the frames that pass the test, by the events of what is lost and of what waits.
pub record AreOf (o : Option HostLosses) (mine : Unread → Bool) (at : Address → Bool) (history waiting : List Event) : Type 0 where
  pub lost : KeepsLost o (λ f. IsLost f history × (mine f ≡ true)) (λ r. IsAsked at r history)
  pub waits : KeepsWaiting o mine waiting

-- ---- how one host's change

-- the frame waits, since that time, or waits no longer
pub record HasWaited (old new : Option HostLosses) (frame : ℕ) (time : Option ℕ) : Type 0 where
  pub lost : (n : ℕ) → lost_at new n ≡ lost_at old n
  pub asked : asked_at new ≡ asked_at old
  pub waits : (n : ℕ) → waits_at new n ≡ (if frame == n then time else waits_at old n)

-- one is kept that was lost before this frame and after the latest request
abbrev pub IsNoted : Option HostLosses → ℕ → Type 0
IsNoted o frame = (n : ℕ) × IsSome (lost_at o n) × (asked_at o ≤ n) × (n ≤ frame)

-- the frame is lost
pub record HasLost (old new : Option HostLosses) (frame time : ℕ) : Type 0 where
  pub waits : (n : ℕ) → waits_at new n ≡ waits_at old n
  pub asked : asked_at new ≡ asked_at old
  pub lost : (IsNoted old frame × ((n : ℕ) → lost_at new n ≡ lost_at old n))
      ⊎ ((n : ℕ) → lost_at new n ≡ (if frame == n then Some time else lost_at old n))

-- a client asks in that frame
pub record HasAskedIn (old new : Option HostLosses) (frame : ℕ) : Type 0 where
  pub lost : (n : ℕ) → lost_at new n ≡ lost_at old n
  pub waits : (n : ℕ) → waits_at new n ≡ waits_at old n
  pub asked : asked_at new ≡ frame

-- ---- of all hosts

-- a host as an endpoint of port 0
abbrev pub host_end : Address → Endpoint
host_end host = record { port = 0; address = host }

abbrev pub of_host : BTreeMap Endpoint HostLosses → Address → Option HostLosses
of_host hosts host = get endpoint_cmp hosts (host_end host)

-- those of one host have changed so, and those of others have not
pub record Changes (old new : BTreeMap Endpoint HostLosses) (host : Address) (How : Option HostLosses → Option HostLosses → Type 0) : Type 0 where
  pub there : How (of_host old host) (of_host new host)
  pub others : (other : Address) → same_address host other ≡ false → of_host new other ≡ of_host old other

abbrev pub kept_of : Unread → Waiting
kept_of f = record { hosts = f.hosts; time = f.time }

-- They stand for these events, of what is lost and of what waits.
pub record StandFor (l : Losses) (history waiting : List Event) : Type 0 where
  pub hosts : (host : Address) → AreOf (of_host l.of_hosts host) (is_of_host host) (λ a. same_address a host) history waiting
  pub unknown : AreOf (Some l.of_unknown) is_of_none (λ a. true) history waiting
  pub waits : (n : ℕ) → get nat_cmp l.waiting n ≡ option_map kept_of (waiting_at n waiting)

-- They stand for these events.
abbrev pub AreLosses : Losses → List Event → Type 0
AreLosses l history = StandFor l history history

-- the lesser of two numbers, where there is one
abbrev pub lesser : Option ℕ → Option ℕ → Option ℕ
lesser None other = other
lesser (Some one) None = Some one
lesser (Some one) (Some other) = Some (min one other)

-- by these events the frame is lost, beside those that were before, and nothing else has changed
pub record LosesMore (f : Unread) (before after : List Event) : Type 0 where
  pub lost : IsLost f after
  pub keeps : (g : Unread) → IsLost g before → IsLost g after
  pub only : (g : Unread) → IsLost g after → (g ≡ f) ⊎ IsLost g before
  pub asked : (at : Address → Bool) (r : ℕ) → IsAsked at r after → IsAsked at r before
