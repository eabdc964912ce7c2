-- What is held of a packet's parts, and for which parts it stands.
use Rattle.std.specs.Prelude.{◌≡◌, ℕ, ◌+◌, ◌-◌, ◌<◌, ◌≤◌, Bool, true, false, ◌⊎◌, List, [], length, map, slice_index, slice_index_or, Option, Some, None}
use Rattle.std.specs.List.{AllByRecursion}
use Rattle.net_udp.specs.declared.fragments.content.Content.{Content as Given}
use Rattle.net_udp.specs.declared.fragments.part.Part.{Part as Brought}
use Rattle.net_udp.specs.Fragments.Whole.{Content, Part, end_of, EndsRightly, Among, Covers}

-- the part that a value in memory is
abbrev pub part_of : Brought → Part
part_of p = record { protocol = p.protocol; place = p.place; more = p.more; content = p.content.now; may_overlap = p.may_overlap }

-- the content that a value in memory is
abbrev pub content_of : Given → Content
content_of c = record { protocol = c.protocol; bytes = c.bytes.items }

-- the content, a byte where a part brought one, up to the furthest end of a part; whether the last part has come; and what
-- the first one names
pub record Held : Type 0 where
  pub cells : List (Option ℕ)
  pub ended : Bool
  pub protocol : Option ℕ

abbrev pub nothing_held : Held
nothing_held = record { cells = []; ended = false; protocol = None }

abbrev pub cell : Held → ℕ → Option ℕ
cell h k = slice_index_or h.cells k None

-- each byte of the part is held, its end stands where it may, and what it names is held if it is the first
pub record HoldsPart (h : Held) (p : Part) : Type 0 where
  pub bytes : (i : ℕ) → i < length p.content → cell h (p.place + i) ≡ Some (slice_index p.content i)
  pub within : end_of p ≤ length h.cells
  pub last : p.more ≡ false → (h.ended ≡ true) × (end_of p ≡ length h.cells)
  pub inner : p.more ≡ true → h.ended ≡ true → end_of p < length h.cells
  pub first : p.place ≡ 0 → h.protocol ≡ Some p.protocol

-- what is held is that of these parts, and of no other
pub record StandsFor (h : Held) (parts : List Part) : Type 0 where
  pub each : AllByRecursion (HoldsPart h) parts
  pub brought : (k b : ℕ) → cell h k ≡ Some b → Among (λ p. Covers k p × (slice_index p.content (k - p.place) ≡ b)) parts
  pub reach : 1 ≤ length h.cells → Among (λ p. end_of p ≡ length h.cells) parts
  pub last : h.ended ≡ true → Among (λ p. p.more ≡ false) parts
  pub named : (n : ℕ) → h.protocol ≡ Some n → Among (λ p. (p.place ≡ 0) × (p.protocol ≡ n)) parts

-- the part ends where it may: where the last one has come the content's size is known, and before that a last one ends
-- behind all others
abbrev pub EndsAgree : Held → Part → Type 0
EndsAgree h p = (h.ended ≡ true → EndsRightly p.more (end_of p) (length h.cells)) × (h.ended ≡ false → p.more ≡ false → length h.cells < end_of p)

-- two first parts name one protocol
abbrev pub NamesAgree : Held → Part → Type 0
NamesAgree h p = (n : ℕ) → p.place ≡ 0 → h.protocol ≡ Some n → p.protocol ≡ n

-- the part may come to what is held: no byte differs, the ends agree, and so does what the first names
pub record Agrees (h : Held) (p : Part) : Type 0 where
  pub bytes : (i b : ℕ) → i < length p.content → cell h (p.place + i) ≡ Some b → b ≡ slice_index p.content i
  pub ends : EndsAgree h p
  pub names : NamesAgree h p

-- bytes were written into cells from a place on, and as many cells added as these need
pub record AreLaid (old : List (Option ℕ)) (place : ℕ) (bytes : List ℕ) (new : List (Option ℕ)) : Type 0 where
  pub longer : length old ≤ length new
  pub reached : place + length bytes ≤ length new
  pub exact : (length new ≡ length old) ⊎ (length new ≡ place + length bytes)
  pub there : (i : ℕ) → i < length bytes → slice_index_or new (place + i) None ≡ Some (slice_index bytes i)
  pub before : (k : ℕ) → k < place → slice_index_or new k None ≡ slice_index_or old k None
  pub behind : (k : ℕ) → place + length bytes ≤ k → slice_index_or new k None ≡ slice_index_or old k None

-- all of the content is held
pub record IsComplete (h : Held) : Type 0 where
  pub last : h.ended ≡ true
  pub full : (k : ℕ) → k < length h.cells → (b : ℕ) × (cell h k ≡ Some b)
  pub named : (n : ℕ) × (h.protocol ≡ Some n)

-- it is this content
abbrev pub IsHeld : Held → Content → Type 0
IsHeld h whole = (h.cells ≡ map (λ b. Some b) whole.bytes) × (h.protocol ≡ Some whole.protocol)

-- how a packet's parts are kept: all before the front is held, and the byte there is not
pub record IsKept (cells : List (Option ℕ)) (front : ℕ) : Type 0 where
  pub within : front ≤ length cells
  pub before : (k : ℕ) → k < front → (b : ℕ) × (slice_index_or cells k None ≡ Some b)
  pub here : front < length cells → slice_index_or cells front None ≡ None
  pub few : length cells ≤ 65535
