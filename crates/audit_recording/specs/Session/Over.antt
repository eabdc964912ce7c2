-- When nothing that comes later changes what is told of a transfer.
use Rattle.std.specs.Prelude.{◌≡◌, ◌≤◌, ◌<◌, ◌+◌, ◌||◌, ℕ, true, List, [], Some, IsSome}
use Rattle.std.specs.List.{AllByRecursion}
use Rattle.std.specs.BTreeMap.{get}
use Rattle.std.specs.Ordering.{nat_cmp}
use Rattle.audit_flows.specs.{Address}
use Rattle.audit_flows.specs.Lines.{clock, line, live, silence}
use Rattle.audit_recording.specs.Blame.Frames.{Carried, whole_of}
use Rattle.audit_recording.specs.Losses.Noted.{Event, Unread, is_of_host, is_of_none, longest_wait, waiting_at}
use Rattle.audit_recording.specs.Losses.Noted.Event.{Asks, Finds, GivesUp, Loses, Waits}
use Rattle.audit_recording.specs.Session.Noted.{Noticed, stretch_of}
use Rattle.audit_recording.specs.Session.Recording.{reached_by}
use Rattle.audit_recording.specs.declared.blame.trail.Trail.{Trail}
use Rattle.audit_recording.specs.declared.session.losses.Stretch.{Stretch}
use Rattle.audit_recording.specs.declared.session.session.Session.{Session}

-- a frame that may be of this host waits for others of its packet
abbrev pub IsWaitingAt : Address → List Event → Type 0
IsWaitingAt host history = (f : Unread) × (waiting_at f.frame history ≡ Some f) × ((is_of_host host f || is_of_none f) ≡ true)

-- By that moment more than 300 s have gone since the transfer's last datagram, and 30 s more where a frame waits that may be of its
-- client's host.
pub record IsPast (w : Stretch) (moment : ℕ) (history : List Event) : Type 0 where
  pub silent : w.last_time + silence < moment
  pub waited : IsWaitingAt w.client history → w.last_time + silence + longest_wait < moment

-- The transfer is past, and its client is silent, so that no datagram joins it any more.
pub record IsOver (t : Trail) (named : List ℕ) (carried : List Carried) (s : Noticed) : Type 0 where
  pub past : IsPast (stretch_of t) (reached_by s.times) s.events
  pub silent : live (clock (whole_of named carried)) (line t.transfer.client (whole_of named carried)) ≡ []

-- The oldest transfer that was not handed out is over.
abbrev pub IsOldestOver : Session → List ℕ → List Carried → Noticed → Type 0
IsOldestOver session named carried s =
    (n : ℕ) × (t : Trail) × (get nat_cmp session.trails n ≡ Some t) × ((m : ℕ) → IsSome (get nat_cmp session.trails m) → n ≤ m) × IsOver t named carried s

-- ---- what comes later

-- What is lost or waits stands in a frame after that one, and passed at that moment or later; and so late what waited is found.
abbrev pub IsLater : ℕ → ℕ → Event → Type 0
IsLater newest moment (Asks host frame) = Unit {0}
IsLater newest moment (Loses f) = (newest < f.frame) × (moment ≤ f.time)
IsLater newest moment (Waits f) = (newest < f.frame) × (moment ≤ f.time)
IsLater newest moment (Finds frame clock) = moment ≤ clock
IsLater newest moment (GivesUp frame) = Unit {0}

-- all these events come later, after those in frames up to the newest
abbrev pub AreLater : ℕ → ℕ → List Event → Type 0
AreLater newest moment later = AllByRecursion (IsLater newest moment) later
