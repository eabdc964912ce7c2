-- Datagrams of no transfer that may be of one by their times, and the newest transfer of each client. Histories have the newest event
-- first.
use Rattle.std.specs.Prelude.{◌≡◌, ◌&&◌, ◌||◌, ◌==◌, nat_le, nat_lt, ℕ, Bool, false, true, List, [], ◌∷◌, Option, Some, None, if◌then◌else◌}
use Rattle.std.specs.BTreeMap.{get}
use Rattle.audit_flows.specs.{Endpoint, V4}
use Rattle.audit_flows.specs.Lines.{endpoint_cmp, same_endpoint}
use Rattle.audit_recording.specs.declared.session.unplaced.Moment.{Moment}
use Rattle.audit_recording.specs.declared.session.unplaced.Unplaced.{Unplaced}

-- What is noted: a datagram of no transfer, by its ends, its payload, its frame and its time in nanoseconds since 1970; that a client
-- opens the transfer with this number; that this one has ended.
pub data Event : Type 0 where
  Passes : Endpoint → Endpoint → List ℕ → Moment → Event
  Opens : Endpoint → ℕ → Event
  Ends : Endpoint → ℕ → Event

-- it begins as a packet does: with an opcode from 1 to 6 (RFC 1350, section 5; RFC 2347)
abbrev pub begins_so : List ℕ → Bool
begins_so [] = false
begins_so (high ∷ []) = false
begins_so (high ∷ low ∷ rest) = (high == 0) && (nat_le 1 low && nat_le low 6)

abbrev pub is_later : Option Moment → Moment → Bool
is_later None m = true
is_later (Some before) m = nat_lt before.time m.time

-- this moment, where it has a later time than the one before
abbrev pub later : Option Moment → Moment → Option Moment
later None m = Some m
later (Some before) m = if nat_lt before.time m.time then Some m else Some before

-- of what looks like a packet, and came from this endpoint or went there, the one with the greatest time: the first of several
abbrev pub latest_at : Endpoint → List Event → Option Moment
latest_at e [] = None
latest_at e (Passes source target payload m ∷ older) =
    if begins_so payload && (same_endpoint source e || same_endpoint target e) then later (latest_at e older) m else latest_at e older
latest_at e (Opens client number ∷ older) = latest_at e older
latest_at e (Ends client number ∷ older) = latest_at e older

abbrev pub is_it : ℕ → Option ℕ → Bool
is_it number None = false
is_it number (Some other) = other == number

-- the newest transfer of this client, unless it has ended
abbrev pub newest_of : Endpoint → List Event → Option ℕ
newest_of c [] = None
newest_of c (Passes source target payload m ∷ older) = newest_of c older
newest_of c (Opens client number ∷ older) = if same_endpoint client c then Some number else newest_of c older
newest_of c (Ends client number ∷ older) = if same_endpoint client c && is_it number (newest_of c older) then None else newest_of c older

-- the frame of what passed before, if it has a later time than this
abbrev pub after : ℕ → Option Moment → Option ℕ
after time None = None
after time (Some m) = if nat_lt time m.time then Some m.frame else None

-- It stands for these events.
pub record IsUnplacedAfter (u : Unplaced) (history : List Event) : Type 0 where
  pub latest : (e : Endpoint) → get endpoint_cmp u.latest e ≡ latest_at e history
  pub clients : (c : Endpoint) → get endpoint_cmp u.of_clients c ≡ newest_of c history

-- ---- worked

-- an endpoint of one host
abbrev pub worked_end : ℕ → Endpoint
worked_end port = record { port = port; address = V4 (192 ∷ 0 ∷ 2 ∷ 1 ∷ []) }
