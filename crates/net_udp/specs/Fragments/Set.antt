-- What is kept of the fragments of one packet, and for which fragments it stands.
use Rattle.std.specs.Prelude.{◌≡◌, ◌⊎◌, ◌↔◌, ℕ, ◌+◌, ◌*◌, ◌^◌, ◌≤◌, Bool, true, false, List, [], ◌∷◌, ◌++◌, length, map, reverse, Option, Some, None}
use Rattle.std.specs.List.{AllByRecursion}
use Rattle.std.specs.Global.{Vec}
use Rattle.net_udp.specs.declared.fragments.extent.Extent.{Extent}
use Rattle.net_udp.specs.Fragments.Whole.{Among, Content, HasPart, Part, end_of}
use Rattle.net_udp.specs.Fragments.Overlaps.{OneOf, Overlap, TwoOverlap, extent_of}
use Rattle.net_udp.specs.Fragments.Pieces.{Agrees, Held, StandsFor, nothing_held}

-- a fragment that came: its part, when it came in nanoseconds, where the recording says so, and the number of its frame
pub record Arrival : Type 0 where
  pub part : Part
  pub time : Option ℕ
  pub frame : ℕ

-- the parts of fragments
abbrev pub parts_of : List Arrival → List Part
parts_of arrivals = map (λ a. a.part) arrivals

-- no content has all of the parts
abbrev pub AreApart : List Part → Type 0
AreApart parts = (whole : Content) → AllByRecursion (HasPart whole) parts → ⊥

-- no packet is put together of parts among which these are
abbrev pub AreNone : List Part → Type 0
AreNone parts = AreApart parts ⊎ TwoOverlap parts

-- what is kept: the parts, the frames and the extents of the fragments, when the first came, and whether no packet is put
-- together of them
pub record SetState : Type 0 where
  pub held : Held
  pub frames : List ℕ
  pub extents : List Extent
  pub began : Option ℕ
  pub spoiled : Bool

-- how many bytes it is counted for: two for each byte up to the furthest end of a part, 20 for each frame and its extent, and
-- 256
abbrev pub room_of : SetState → ℕ
room_of s = 2 * length s.held.cells + 20 * length s.frames + 256

-- the part may come to what is kept: it agrees with what is held, and overlaps with none where it may not
pub record MayJoin (s : SetState) (p : Part) : Type 0 where
  pub agrees : Agrees s.held p
  pub distinct : p.may_overlap ≡ false → OneOf (Overlap (extent_of p)) s.extents → ⊥

-- why it may not
abbrev pub Spoils : SetState → Part → Type 0
Spoils s p = (Agrees s.held p → ⊥) ⊎ ((p.may_overlap ≡ false) × OneOf (Overlap (extent_of p)) s.extents)

-- nothing is kept of a spoiled set
pub record IsSound (held : Held) (frames : List ℕ) (extents : List Extent) (spoiled : Bool) : Type 0 where
  pub few : length frames ≤ 2 ^ 40
  pub each : length extents ≤ length frames
  pub none : spoiled ≡ true → frames ≡ []
  pub nothing : spoiled ≡ true → held ≡ nothing_held

-- what is kept of these fragments, the last one first; where no packet is put together of them nothing is
pub record IsSetOf (s : SetState) (arrivals : List Arrival) : Type 0 where
  pub held : s.spoiled ≡ false → StandsFor s.held (parts_of arrivals)
  pub frames : s.spoiled ≡ false → s.frames ≡ reverse (map (λ a. a.frame) arrivals)
  pub extents : s.spoiled ≡ false → (e : Extent) → OneOf (Overlap e) s.extents ↔ Among (λ q. Overlap e (extent_of q)) (parts_of arrivals)
  pub distinct : s.spoiled ≡ false → TwoOverlap (parts_of arrivals) → ⊥
  pub apart : s.spoiled ≡ true → (s.frames ≡ []) × AreNone (parts_of arrivals)
  pub nothing : s.spoiled ≡ true → s.held ≡ nothing_held

-- what becomes of a fragment that is taken: it waits with the others, or no packet is put together of it and them, and the
-- answer is the frames that waited
abbrev pub TakeEnds : SetState → SetState → Part → ℕ → Option (Vec ℕ) → Type 0
TakeEnds old new part frame None = (new.spoiled ≡ false) × (room_of new ≤ room_of old + (2 * end_of part + 20))
    × ((arrivals : List Arrival) (a : Arrival) → a.part ≡ part → a.frame ≡ frame → IsSetOf old arrivals → IsSetOf new (a ∷ arrivals))
    × (old.spoiled ≡ false) × MayJoin old part × (new.frames ≡ old.frames ++ frame ∷ [])
TakeEnds old new part frame (Some frames) = (new.spoiled ≡ true) × (room_of new ≤ room_of old) × (frames.items ≡ old.frames)
    × ((arrivals : List Arrival) (a : Arrival) → a.part ≡ part → IsSetOf old arrivals → AreNone (parts_of (a ∷ arrivals)) × IsSetOf new (a ∷ arrivals)) × (new.frames ≡ [])
