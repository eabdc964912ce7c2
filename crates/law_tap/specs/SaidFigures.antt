-- What was said of the numbers of blocks and ACKs, in four figures beside the greatest block, and which block sizes fit them. Whether one transfer explains
-- all that was said is decided by these, by the request and by the OACK.
use Rattle.std.specs.Prelude.{◌≡◌, ◌≢◌, ◌⊎◌, ◌↔◌, ℕ, ◌+◌, ◌/◌, ◌<◌, ◌≤◌, ◌==◌, if◌then◌else◌, Bool, true, List, length, Option, Some, None, codes}
use Rattle.std.specs.FinMap as map
use Rattle.tftp_packet.specs.{OptionMap, Num, no_options, RequestParts, Message, Get, End}
use Rattle.tftp_packet.specs.{Rollover}
use Rattle.tftp_packet.specs.Rounds.{greatest_of}
use Rattle.tftp_nego.specs.{MayAgree}
use Rattle.law_end.specs.{size_from}
use Rattle.law_tap.specs.TapCapture.{TapDatagram, TapSides}
use Rattle.law_tap.specs.LossyRules.{IsSaid, IsNumber, IsBlockLength, block_size}

pub record Figures : Type 0 where
  pub greatest : ℕ  -- the greatest block, 65535 by two bytes (RFC 1350, section 5)
  pub reach : ℕ  -- the highest number of a block or an ACK, or 0
  pub zero : Bool  -- whether an ACK 0 was said
  pub below : Option ℕ  -- how many bytes the blocks below the highest number have, where some were seen
  pub tail : Option ℕ  -- how many bytes the block with that number has, where it was seen

-- the blocks with such numbers have so many bytes, and there are some; or there are none
abbrev pub HaveLength : TapSides → List TapDatagram → (ℕ → Type 0) → Option ℕ → Type 0
HaveLength s tapped Which None = (e : End) (k : ℕ) (bytes : List ℕ) → IsSaid s tapped e (Message.Data k bytes) → Which k → ⊥
HaveLength s tapped Which (Some long) =
    ((e : End) (k : ℕ) (bytes : List ℕ) → IsSaid s tapped e (Message.Data k bytes) → Which k → length bytes ≡ long)
    × ((e : End) × (k : ℕ) × (bytes : List ℕ) × IsSaid s tapped e (Message.Data k bytes) × Which k)

-- the figures are those of all that was said
pub record AreFigures (f : Figures) (s : TapSides) (tapped : List TapDatagram) : Type 0 where
  pub greatest : f.greatest ≡ greatest_of s.rollover
  pub highest : (k : ℕ) → IsNumber s tapped k → k ≤ f.reach
  pub reached : (f.reach ≡ 0) ⊎ IsNumber s tapped f.reach
  pub zero : (f.zero ≡ true) ↔ ((e : End) × IsSaid s tapped e (Message.Ack 0))
  pub below : HaveLength s tapped (λ k. k < f.reach) f.below
  pub tail : HaveLength s tapped (λ k. k ≡ f.reach) f.tail

-- the one length that blocks of these two lengths have, where they are the same or one is not known
abbrev pub join_lengths : Option ℕ → Option ℕ → Option (Option ℕ)
join_lengths None other = Some other
join_lengths (Some long) None = Some (Some long)
join_lengths (Some long) (Some other) = if long == other then Some (Some long) else None

-- ---- block sizes

-- Blocks of b bytes fit: what is below the highest number is whole, and the greatest block is the last one (RFC 1350, sections 5 and 6).
pub record FitsSize (b : ℕ) (f : Figures) : Type 0 where
  pub numbered : f.reach ≤ f.greatest
  pub below : (long : ℕ) → f.below ≡ Some long → long ≡ b
  pub tail : (long : ℕ) → f.tail ≡ Some long → (long < b) ⊎ ((long ≡ b) × (f.reach < f.greatest))

-- and so they do where there are so many bytes (RFC 2349)
pub record FitsTotal (b total : ℕ) (f : Figures) : Type 0 where
  pub numbered : total / b + 1 ≤ f.greatest
  pub reach : f.reach ≤ total / b + 1
  pub below : (long : ℕ) → f.below ≡ Some long → long ≡ b
  pub tail : (long : ℕ) → f.tail ≡ Some long → IsBlockLength b total f.reach long

-- where the size of the file is known, or not
abbrev pub FitsTerms : ℕ → Option ℕ → Figures → Type 0
FitsTerms b None f = FitsSize b f
FitsTerms b (Some total) f = FitsTotal b total f

-- ---- what may have been agreed to

-- by the options of an OACK
abbrev pub FitsAgreed : RequestParts → OptionMap → Figures → Type 0
FitsAgreed asked agreed f = FitsTerms (block_size agreed) (size_from asked.mode (map.get agreed (codes "tsize"))) f

-- the option was asked for by a number, and so may be agreed to
abbrev pub AsksFor : RequestParts → List ℕ → Type 0
AsksFor asked name = (number : ℕ) × (map.get asked.options name ≡ Some (Num number))

-- Blocks of 512 bytes are possible with nothing agreed; after an ACK 0 of a read something was, and that may be another option.
abbrev pub MayBeUsual : RequestParts → Figures → Type 0
MayBeUsual asked f = asked.side ≡ Get → f.zero ≡ true → AsksFor asked (codes "windowsize") ⊎ (AsksFor asked (codes "timeout") ⊎ AsksFor asked (codes "tsize"))

-- a block size may have been agreed to of which no OACK was seen, and fits (RFC 2348)
abbrev pub FitsLowered : RequestParts → Figures → Type 0
FitsLowered asked f = (most : ℕ) × (map.get asked.options (codes "blksize") ≡ Some (Num most)) × (b : ℕ) × (8 ≤ b) × (b ≤ most) × FitsSize b f

-- so it is without an OACK
abbrev pub FitsUnseen : RequestParts → Figures → Type 0
FitsUnseen asked f = (MayBeUsual asked f × FitsSize 512 f) ⊎ FitsLowered asked f

-- by the first OACK that was seen, if one was
abbrev pub FitsSaid : RequestParts → Option OptionMap → Figures → Type 0
FitsSaid asked None f = FitsUnseen asked f
FitsSaid asked (Some agreed) f = FitsAgreed asked agreed f

-- the options of an OACK may be agreed to, and are some (RFC 2347)
pub record IsFair (rollover : Option Rollover) (asked : RequestParts) (agreed : OptionMap) : Type 0 where
  pub may : MayAgree rollover asked agreed
  pub some : agreed ≢ no_options

-- the OACK that was seen, or none was
abbrev pub IsOffered : TapSides → List TapDatagram → Option OptionMap → Type 0
IsOffered s tapped None = (e : End) (options : OptionMap) → IsSaid s tapped e (Message.Oack options) → ⊥
IsOffered s tapped (Some agreed) = (e : End) × IsSaid s tapped e (Message.Oack agreed)
