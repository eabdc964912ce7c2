-- In which frames the datagrams of a recording came, and which of them were seen at a point. Lists have the newest first; a
-- transfer is known by its number.
use Rattle.std.specs.Prelude.{ℕ, ◌-◌, Bool, List, [], ◌∷◌, filter, map, reverse, Option}
use Rattle.std.specs.List.{slice_get}
use Rattle.net_udp.specs.declared.frames.checksum.Checksum.{Checksum}
use Rattle.audit_flows.specs.Lines.{Placed, Recorded, is_of}
use Rattle.audit_flows.specs.Transfers.{is_at_server, placed as place_all}
use Rattle.audit_recording.specs.Audit.Audited.{placed_after}
use Rattle.audit_recording.specs.declared.rows.row.Point.{Point}
use Rattle.audit_recording.specs.declared.rows.row.Point.TheVariants.{Client, Server, Between}

-- A datagram, the frame with which it was there whole, from 1, the time that this tells, in nanoseconds, whether it may be a copy
-- of the one before it, whether it was received with an error of its link, and what its checksums told.
pub record Carried : Type 0 where
  pub frame : ℕ
  pub time : Option ℕ
  pub is_doubtful : Bool
  pub has_error : Bool
  pub checksum : Checksum
  pub datagram : Recorded

abbrev pub datagrams_of : List Carried → List Recorded
datagrams_of carried = map (λ c. c.datagram) carried

-- the whole recording, each datagram with its place
abbrev pub whole_of : List ℕ → List Carried → List Placed
whole_of named carried = place_all named (datagrams_of carried)

-- a datagram in its frame, with its place, and what was placed before it
pub record Framed : Type 0 where
  pub carried : Carried
  pub placed : Placed
  pub before : List Placed

-- one more, after these
abbrev pub framed_after : List ℕ → List Carried → Carried → Framed
framed_after named older c = record { carried = c; placed = placed_after named (whole_of named older) c.datagram; before = whole_of named older }

-- each datagram of a recording
abbrev pub framed : List ℕ → List Carried → List Framed
framed named [] = []
framed named (c ∷ older) = framed_after named older c ∷ framed named older

-- ---- the view of a point

-- it was seen there; between the ends all was that passed at the client
abbrev pub is_seen : Point → ℕ → List Placed → Placed → Bool
is_seen Client n whole p = is_of n p
is_seen Server n whole p = is_at_server n whole p
is_seen Between n whole p = is_of n p

-- of these, those that were seen there, by the whole
abbrev pub seen_of : Point → ℕ → List Placed → List Framed → List Framed
seen_of point n whole frames = filter (λ f. is_seen point n whole f.placed) frames

-- what was seen there of the transfer
abbrev pub view_of : Point → ℕ → List ℕ → List Carried → List Framed
view_of point n named carried = seen_of point n (whole_of named carried) (framed named carried)

-- the datagram of that number in a view, the first being 1
abbrev pub numbered : List Framed → ℕ → Option Framed
numbered view number = slice_get (reverse view) (number - 1)

-- the datagram of that number that was seen there
abbrev pub seen_as : Point → ℕ → List ℕ → List Carried → ℕ → Option Framed
seen_as point n named carried number = numbered (view_of point n named carried) number
