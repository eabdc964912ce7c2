-- The content of an IP packet and its parts, as fragments bring them (RFC 791, section 3.2; RFC 8200, section 4.5).
use Rattle.std.specs.Prelude.{◌≡◌, ◌≢◌, ℕ, ◌+◌, ◌<◌, ◌≤◌, Bool, true, false, ◌⊎◌, List, [], ◌∷◌, ◌++◌, length, slice_index}
use Rattle.std.specs.List.{AllByRecursion}

-- a part: the protocol that its fragment names, where it begins in the content, whether parts follow it, its bytes, and whether
-- it may overlap with others of its packet
pub record Part : Type 0 where
  pub protocol : ℕ
  pub place : ℕ
  pub more : Bool
  pub content : List ℕ
  pub may_overlap : Bool

-- what a packet carries: the protocol with which it begins, and its bytes
pub record Content : Type 0 where
  pub protocol : ℕ
  pub bytes : List ℕ

-- the place behind its last byte
abbrev pub end_of : Part → ℕ
end_of p = p.place + length p.content

-- what ends there ends before the content does, or with it
abbrev pub EndsRightly : Bool → ℕ → ℕ → Type 0
EndsRightly true end size = end < size
EndsRightly false end size = end ≡ size

-- The content has the part: its bytes stand there at its place, and others follow them exactly if it says so. The first
-- part names the protocol, and what others name does not count (RFC 8200, section 4.5).
pub record HasPart (whole : Content) (p : Part) : Type 0 where
  pub bytes : (i : ℕ) → i < length p.content → slice_index whole.bytes (p.place + i) ≡ slice_index p.content i
  pub ends : EndsRightly p.more (end_of p) (length whole.bytes)
  pub first : p.place ≡ 0 → p.protocol ≡ whole.protocol

-- one of the parts is so
abbrev pub Among : (Part → Type 0) → List Part → Type 0
Among P [] = ⊥
Among P (p ∷ ps) = P p ⊎ Among P ps

-- the part has the byte at a place
abbrev pub Covers : ℕ → Part → Type 0
Covers k p = (p.place ≤ k) × (k < end_of p)

-- the parts give the content, whatever their order: it has each of them, each of its bytes is in one of them, and one is
-- its last
pub record Give (parts : List Part) (whole : Content) : Type 0 where
  pub each : AllByRecursion (HasPart whole) parts
  pub covered : (k : ℕ) → k < length whole.bytes → Among (Covers k) parts
  pub last : Among (λ p. p.more ≡ false) parts

-- the parts, one behind another from a place on, are the bytes, and the last one alone says that none follows it
abbrev pub InRow : ℕ → List Part → List ℕ → Type 0
InRow place [] bytes = ⊥
InRow place (p ∷ []) bytes = (p.place ≡ place) × (p.more ≡ false) × (bytes ≡ p.content)
InRow place (p ∷ q ∷ ps) bytes = (rest : List ℕ) × (p.place ≡ place) × (p.more ≡ true) × (p.content ≢ []) × (q.content ≢ []) × (bytes ≡ p.content ++ rest) × InRow (place + length p.content) (q ∷ ps) rest

-- the first of the parts names the protocol
abbrev pub FirstNames : ℕ → List Part → Type 0
FirstNames protocol [] = ⊥
FirstNames protocol (p ∷ ps) = p.protocol ≡ protocol

-- the content was cut into these parts, which stand in its order
abbrev pub IsCutInto : Content → List Part → Type 0
IsCutInto whole parts = InRow 0 parts whole.bytes × FirstNames whole.protocol parts

-- the same parts, in any order and any of them several times
pub record AreSame (parts others : List Part) : Type 0 where
  pub there : (p : Part) → Among (λ q. q ≡ p) parts → Among (λ q. q ≡ p) others
  pub back : (p : Part) → Among (λ q. q ≡ p) others → Among (λ q. q ≡ p) parts
