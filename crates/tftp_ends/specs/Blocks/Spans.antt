-- Places whose blocks are parts of the same bytes: what a ring keeps above its front.
use Rattle.std.specs.Prelude.{◌+◌, ◌≤◌, ℕ, List, [], ◌∷◌, map, take, drop, Option, Some, None, option_map, ⊤}
use Rattle.tftp_ends.specs.declared.blocks.waiting.Span.{Span}
use Rattle.tftp_ends.specs.Blocks.Ring.{Slots}

abbrev pub part : List ℕ → Span → List ℕ
part bytes span = take span.len (drop span.start bytes)

-- the places, with the bytes of their blocks
abbrev pub shown : List ℕ → List (Option Span) → Slots
shown bytes places = map (option_map (part bytes)) places

-- each span ends within `size` bytes
abbrev pub AreWithin : ℕ → List (Option Span) → Type 0
AreWithin size [] = ⊤
AreWithin size (None ∷ places) = AreWithin size places
AreWithin size (Some span ∷ places) = (span.start + span.len ≤ size) × AreWithin size places
