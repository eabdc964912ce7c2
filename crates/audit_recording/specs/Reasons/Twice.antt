-- Whether each of some datagrams stands beside its equal: then they were recorded twice. Lists have the newest first.
use Rattle.std.specs.Prelude.{◌≡◌, ◌≤◌, ◌&&◌, ◌||◌, not, nat_lt, ℕ, Bool, true, false, List, [], ◌∷◌, Option, Some, None}
use Rattle.std.specs.Str.{bytes_eq}
use Rattle.audit_flows.specs.{Endpoint, V4}
use Rattle.audit_flows.specs.Lines.{same_endpoint}
use Rattle.audit_recording.specs.declared.blame.twice.Twice.{Twice}

-- a datagram: where it came from, where it went, what it carried
pub record Sent : Type 0 where
  pub source : Endpoint
  pub target : Endpoint
  pub payload : List ℕ

abbrev pub sent : Endpoint → Endpoint → List ℕ → Sent
sent source target payload = record { source = source; target = target; payload = payload }

-- ---- what is promised

-- they are equal, from their ends to their last byte
abbrev pub is_equal : Sent → Sent → Bool
is_equal d e = same_endpoint d.source e.source && (same_endpoint d.target e.target && bytes_eq d.payload e.payload)

-- it is equal to that one, if there is one
abbrev pub is_equal_to : Sent → Option Sent → Bool
is_equal_to d None = false
is_equal_to d (Some e) = is_equal d e

abbrev pub newest : List Sent → Option Sent
newest [] = None
newest (d ∷ older) = Some d

-- each stands beside its equal, where that one comes after the newest
abbrev pub are_beside_equals : Option Sent → List Sent → Bool
are_beside_equals newer [] = true
are_beside_equals newer (d ∷ older) = (is_equal_to d newer || is_equal_to d (newest older)) && are_beside_equals (Some d) older

-- there are some, and each stands beside its equal
abbrev pub are_twice : List Sent → Bool
are_twice [] = false
are_twice (d ∷ older) = are_beside_equals None (d ∷ older)

-- ---- what is kept

-- the newest one is this
abbrev pub is_kept : Option (Endpoint × Endpoint) → List ℕ → Sent → Bool
is_kept None last d = false
is_kept (Some ends) last d = same_endpoint ends.0 d.source && (same_endpoint ends.1 d.target && bytes_eq last d.payload)

-- It stands for these, of which this is the newest: one before it stood alone; or else the row of those that are equal to it is
-- counted.
pub record IsTwiceOf (t : Twice) (d : Sent) (older : List Sent) : Type 0 where
  pub broken : t.is_broken ≡ not (are_beside_equals (Some d) older)
  pub some : t.is_broken ≡ false → 1 ≤ t.row
  pub row : t.is_broken ≡ false → nat_lt 1 t.row ≡ is_equal_to d (newest older)
  pub ends : t.is_broken ≡ false → t.ends ≡ Some (d.source, d.target)
  pub last : t.is_broken ≡ false → t.last.items ≡ d.payload

-- It stands for these.
abbrev pub IsTwiceAfter : Twice → List Sent → Type 0
IsTwiceAfter t [] = (t.is_broken ≡ false) × (t.row ≡ 0) × (t.ends ≡ None)
IsTwiceAfter t (d ∷ older) = IsTwiceOf t d older

-- ---- worked

-- a datagram that carries this byte
abbrev pub worked_sent : ℕ → Sent
worked_sent byte = sent (record { port = 2000; address = V4 (192 ∷ 0 ∷ 2 ∷ 1 ∷ []) }) (record { port = 69; address = V4 (192 ∷ 0 ∷ 2 ∷ 2 ∷ []) }) (byte ∷ [])
