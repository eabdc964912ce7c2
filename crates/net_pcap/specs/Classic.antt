-- Which bytes are the header of a classic recording (draft-ietf-opsawg-pcap, section 4), and which are a record
-- (section 5).
use Rattle.std.specs.Prelude.{◌≡◌, ◌+◌, ◌*◌, ◌%◌, ◌≤◌, ℕ, Bool, true, false, List, [], ◌∷◌, ◌++◌, length, if◌then◌else◌, Some}
use Rattle.net_pcap.specs.Numbers.{Spells}
use Rattle.net_pcap.specs.Frames.{FrameParts, longest_frame}
use Rattle.net_pcap.specs.declared.numbers.Order.{Order}
use Rattle.net_pcap.specs.declared.numbers.Order.TheVariants.{Big, Little}
use Rattle.net_pcap.specs.declared.layout.Classic.{Classic}
use Rattle.net_pcap.specs.declared.frame.Direction.TheVariants.{Unknown}

-- 0xa1b2c3d4 where times have microseconds, 0xa1b23c4d where they have nanoseconds
abbrev pub magic : Order → Bool → List ℕ
magic Big false = 161 ∷ 178 ∷ 195 ∷ 212 ∷ []
magic Big true = 161 ∷ 178 ∷ 60 ∷ 77 ∷ []
magic Little false = 212 ∷ 195 ∷ 178 ∷ 161 ∷ []
magic Little true = 77 ∷ 60 ∷ 178 ∷ 161 ∷ []

-- the major version, 2
abbrev pub major : Order → List ℕ
major Big = 0 ∷ 2 ∷ []
major Little = 2 ∷ 0 ∷ []

-- the header: the minor version and three numbers are not looked at; of the last number the low 16 bits are the link type
pub record SpellsHeader (bytes : List ℕ) (classic : Classic) : Type 0 where
  pub minor : List ℕ
  pub rest : List ℕ
  pub zone : ℕ
  pub figures : ℕ
  pub longest : ℕ
  pub link : ℕ
  pub are : bytes ≡ magic classic.order classic.nano ++ (major classic.order ++ (minor ++ rest))
  pub two : length minor ≡ 2
  pub numbers : Spells classic.order rest (zone ∷ figures ∷ longest ∷ link ∷ [])
  pub link_is : classic.link ≡ link % 65536

-- how many nanoseconds a fraction of a second counts
abbrev pub fraction_unit : Bool → ℕ
fraction_unit nano = if nano then 1 else 1000

-- a record, of the one interface: seconds, a fraction of a second, how many bytes of the frame follow, how many it had; and those bytes
pub record SpellsRecord (classic : Classic) (bytes : List ℕ) (frame : FrameParts) : Type 0 where
  pub head : List ℕ
  pub seconds : ℕ
  pub fraction : ℕ
  pub are : bytes ≡ head ++ frame.bytes
  pub numbers : Spells classic.order head (seconds ∷ fraction ∷ length frame.bytes ∷ frame.original ∷ [])
  pub few : length frame.bytes ≤ longest_frame
  pub link : frame.link ≡ classic.link
  pub time : frame.time ≡ Some (seconds * 1000000000 + fraction * fraction_unit classic.nano)
  pub direction : frame.direction ≡ Unknown
  pub section : frame.section ≡ 0
  pub interface : frame.interface ≡ 0
  pub damaged : frame.damaged ≡ false
  pub missed : frame.missed ≡ 0
