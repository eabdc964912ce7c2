-- Which options a server may agree to (RFC 2347; RFC 2348; RFC 2349; RFC 7440, section 3).
use Rattle.std.specs.Prelude.{◌≡◌, ℕ, ◌+◌, ◌/◌, ◌≤◌, ◌⊎◌, List, Option, Some, codes}
use Rattle.std.specs.FinMap as map
use Rattle.tftp_packet.specs.{OptionMap, OptionValue, Num, RequestParts, Side, Put, Octet}
use Rattle.tftp_packet.specs.{Rollover}
use Rattle.tftp_packet.specs.Rounds.{greatest_of}
use Rattle.tftp_nego.specs.Numbers.{option_or}

-- The number given may answer the number asked for. A server lowers a block size or a window and takes over a
-- timeout; the size of a file comes from the end that has it.
abbrev pub MayAnswer : Side → List ℕ → ℕ → ℕ → Type 0
MayAnswer side name asked given =
    ((name ≡ codes "blksize") × (given ≤ asked))
    ⊎ (((name ≡ codes "windowsize") × (given ≤ asked))
    ⊎ (((name ≡ codes "timeout") × (given ≡ asked))
    ⊎ ((name ≡ codes "tsize") × (side ≡ Put → given ≡ asked))))

-- Each option that is agreed was asked for, and its number may answer; with nothing agreed there is none. A size
-- that is agreed of a file in octet mode needs no block above the greatest.
pub record MayAgree (rollover : Option Rollover) (request : RequestParts) (agreed : OptionMap) : Type 0 where
  pub asked : (name : List ℕ) (value : OptionValue) → map.get agreed name ≡ Some value
      → (asked given : ℕ) × (map.get request.options name ≡ Some (Num asked)) × (value ≡ Num given) × MayAnswer request.side name asked given
  pub size : request.mode ≡ Octet → (size : ℕ) → map.get agreed (codes "tsize") ≡ Some (Num size)
      → size / option_or 512 agreed (codes "blksize") + 1 ≤ greatest_of rollover
