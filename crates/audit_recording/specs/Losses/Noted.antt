-- Which frames of a recording are not there whole, and which of them may be of a client's host. Histories have the newest event
-- first.
use Rattle.std.specs.Prelude.{◌≡◌, ◌≤◌, ◌<◌, ◌⊎◌, ◌+◌, ◌==◌, ◌||◌, nat_le, nat_lt, ℕ, Bool, true, false, List, [], ◌∷◌, Option, Some, None, if◌then◌else◌}
use Rattle.std.specs.declared.net.ip_addr.IpAddr.{IpAddr}
use Rattle.audit_flows.specs.{Address}
use Rattle.audit_flows.specs.Lines.{same_address, silence}
use Rattle.audit_views.specs.Parties.Naming.{address_of}
use Rattle.audit_recording.specs.declared.session.losses.Stretch.{Stretch}

-- A frame that can't be read: its number from 1, the hosts between which it went, where its IP header is there, and when it passed,
-- in nanoseconds.
pub record Unread : Type 0 where
  pub frame : ℕ
  pub hosts : Option (IpAddr × IpAddr)
  pub time : ℕ

-- What is noted: that a client of this host asks in that frame, and opens a transfer; that a frame is lost; that one waits for
-- others of its packet; that the packet of a frame is there whole, when the clock stands so; that a frame has waited in vain.
pub data Event : Type 0 where
  Asks : Address → ℕ → Event
  Loses : Unread → Event
  Waits : Unread → Event
  Finds : ℕ → ℕ → Event
  GivesUp : ℕ → Event

-- ---- what is lost, and what waits

-- the frame with this number, where it waits
abbrev pub waiting_at : ℕ → List Event → Option Unread
waiting_at n [] = None
waiting_at n (Asks host frame ∷ older) = waiting_at n older
waiting_at n (Loses f ∷ older) = waiting_at n older
waiting_at n (Waits f ∷ older) = if f.frame == n then Some f else waiting_at n older
waiting_at n (Finds frame clock ∷ older) = if frame == n then None else waiting_at n older
waiting_at n (GivesUp frame ∷ older) = if frame == n then None else waiting_at n older

-- 30 s
abbrev pub longest_wait : ℕ
longest_wait = 30000000000

-- what was found later than 30 s after it passed stays lost to the transfers of its hosts, which may have been told
abbrev pub found_late : ℕ → Option Unread → Option Unread
found_late clock None = None
found_late clock (Some f) = if nat_lt (f.time + longest_wait) clock then Some f else None

-- the frame that is lost by this, after those before
abbrev pub lost_by : Event → List Event → Option Unread
lost_by (Asks host frame) older = None
lost_by (Loses f) older = Some f
lost_by (Waits f) older = None
lost_by (Finds frame clock) older = found_late clock (waiting_at frame older)
lost_by (GivesUp frame) older = waiting_at frame older

abbrev pub IsLost : Unread → List Event → Type 0
IsLost f [] = ⊥
IsLost f (e ∷ older) = (lost_by e older ≡ Some f) ⊎ IsLost f older

-- it went from this host or to it
abbrev pub is_of_host : Address → Unread → Bool
is_of_host host f = by f.hosts where
  by : Option (IpAddr × IpAddr) → Bool
  by None = false
  by (Some hosts) = same_address (address_of hosts.0) host || same_address (address_of hosts.1) host

-- its hosts are not known
abbrev pub is_of_none : Unread → Bool
is_of_none f = by f.hosts where
  by : Option (IpAddr × IpAddr) → Bool
  by None = true
  by (Some hosts) = false

-- A frame with this number and time is lost, or waits and may be lost yet; and it may be of this host.
abbrev pub IsMissingOf : Address → List Event → ℕ → ℕ → Type 0
IsMissingOf host history n time =
    (f : Unread) × (IsLost f history ⊎ (waiting_at f.frame history ≡ Some f)) × ((is_of_host host f || is_of_none f) ≡ true) × (f.frame ≡ n) × (f.time ≡ time)

-- a client of such a host asked in this frame
abbrev pub IsAsked : (Address → Bool) → ℕ → List Event → Type 0
IsAsked at n [] = ⊥
IsAsked at n (Asks host frame ∷ older) = ((at host ≡ true) × (frame ≡ n)) ⊎ IsAsked at n older
IsAsked at n (Loses f ∷ older) = IsAsked at n older
IsAsked at n (Waits f ∷ older) = IsAsked at n older
IsAsked at n (Finds frame clock ∷ older) = IsAsked at n older
IsAsked at n (GivesUp frame ∷ older) = IsAsked at n older

-- A request in this frame comes after all frames that are lost by then, and after all requests.
abbrev pub IsAfterAll : ℕ → List Event → Type 0
IsAfterAll frame history = ((f : Unread) → IsLost f history → f.frame < frame) × ((n : ℕ) → IsAsked (λ host. true) n history → n ≤ frame)

-- ---- the answers

-- the number of the first one; none where there is none
abbrev pub IsFirst : (ℕ → ℕ → Type 0) → Option ℕ → Type 0
IsFirst Such None = (n time : ℕ) → Such n time → ⊥
IsFirst Such (Some first) = ((time : ℕ) × Such first time) × ((n time : ℕ) → Such n time → first ≤ n)

-- from the request of a transfer on
abbrev pub Since : (ℕ → ℕ → Type 0) → Stretch → ℕ → ℕ → Type 0
Since Such w n time = Such n time × (w.first ≤ n)

-- it stands among the transfer's datagrams, or passed at most 300 s after the last
abbrev pub is_soon : Stretch → ℕ → ℕ → Bool
is_soon w n time = nat_le n w.last || nat_le time (w.last_time + silence)

-- The one that is told is such a frame that stands among the transfer's datagrams or passed soon after; and the first one is told,
-- if it did.
pub record IsTold (Such : ℕ → ℕ → Type 0) (w : Stretch) (told : Option ℕ) : Type 0 where
  pub sound : (n : ℕ) → told ≡ Some n → (time : ℕ) × Such n time × (is_soon w n time ≡ true)
  pub first : (n time : ℕ) → Such n time → ((m later : ℕ) → Such m later → n ≤ m) → ((any : ℕ) → Such n any → is_soon w n any ≡ true) → told ≡ Some n

-- such a frame stands among the transfer's datagrams or passed soon after
abbrev pub MayMiss : Stretch → List Event → Type 0
MayMiss w history = (n time : ℕ) × IsMissingOf w.client history n time × (is_soon w n time ≡ true)

-- ---- worked

-- a frame of unknown hosts
abbrev pub unread : ℕ → ℕ → Unread
unread frame time = record { frame = frame; hosts = None; time = time }
