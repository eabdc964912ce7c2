-- Which bytes are a block (draft-ietf-opsawg-pcapng, sections 3 and 4), and what it says.
use Rattle.std.specs.Prelude.{◌≡◌, ◌+◌, ◌*◌, ◌%◌, ◌^◌, ◌≤◌, ◌⊎◌, ◌==◌, ◌<◌, min, nat_lt, ℕ, Bool, false, if◌then◌else◌, List, [], ◌∷◌, ◌++◌, length, Option, Some, None, slice_get, slice_index}
use Rattle.net_pcap.specs.Numbers.{two, number_at, Spells}
use Rattle.net_pcap.specs.Times.{units_of, time_of}
use Rattle.net_pcap.specs.Frames.{FrameParts, longest_frame}
use Rattle.net_pcap.specs.Options.{OptionParts, IsPadding, SpellsOptions, first_value}
use Rattle.net_pcap.specs.declared.numbers.Order.{Order}
use Rattle.net_pcap.specs.declared.numbers.Order.TheVariants.{Big, Little}
use Rattle.net_pcap.specs.declared.layout.Interface.{Interface}
use Rattle.net_pcap.specs.declared.layout.Dropped.{Dropped}
use Rattle.net_pcap.specs.declared.layout.NamedInterface.{NamedInterface}
use Rattle.net_pcap.specs.declared.frame.Direction.{Direction}
use Rattle.net_pcap.specs.declared.frame.Direction.TheVariants.{Unknown, In, Out}

-- ---- blocks (section 3.1)

-- the most bytes of a block
abbrev pub longest_block : ℕ
longest_block = 16777216

-- a block: its type, of four bytes, its length, its body, its length again
pub record SpellsBlock (order : Order) (bytes type body : List ℕ) : Type 0 where
  pub size : List ℕ
  pub again : List ℕ
  pub are : bytes ≡ type ++ (size ++ (body ++ again))
  pub typed : length type ≡ 4
  pub size_is : Spells order size (length bytes ∷ [])
  pub again_is : Spells order again (length bytes ∷ [])
  pub words : length bytes % 4 ≡ 0
  pub few : length bytes ≤ longest_block

-- ---- section headers (section 4.1)

-- the type of a section header, the same in either order
abbrev pub section_type : List ℕ
section_type = 10 ∷ 13 ∷ 13 ∷ 10 ∷ []

-- 0x1a2b3c4d in the order of the section
abbrev pub order_magic : Order → List ℕ
order_magic Big = 26 ∷ 43 ∷ 60 ∷ 77 ∷ []
order_magic Little = 77 ∷ 60 ∷ 43 ∷ 26 ∷ []

-- a section header: the order of its numbers, version 1, and at least ten bytes more, which are not looked at
pub record SpellsSection (bytes : List ℕ) (order : Order) : Type 0 where
  pub a : ℕ
  pub b : ℕ
  pub body : List ℕ
  pub rest : List ℕ
  pub block : SpellsBlock order bytes section_type body
  pub are : body ≡ order_magic order ++ (a ∷ b ∷ rest)
  pub version : two order a b ≡ 1
  pub enough : 10 ≤ length rest

-- ---- interfaces (section 4.2)

-- the most interfaces of a section
abbrev pub most_interfaces : ℕ
most_interfaces = 65536

-- the number of eight bytes
abbrev pub long_at : Order → List ℕ → ℕ
long_at Big bytes = number_at Big bytes 0 * 2 ^ 32 + number_at Big bytes 4
long_at Little bytes = number_at Little bytes 4 * 2 ^ 32 + number_at Little bytes 0

-- how many units a second has, by the option `if_tsresol`: microseconds where it is not there
abbrev pub units_by : Option (List ℕ) → ℕ
units_by None = 1000000
units_by (Some value) = units_of (slice_index value 0)

-- the seconds to be added, by the option `if_tsoffset`
abbrev pub offset_by : Order → Option (List ℕ) → ℕ
offset_by order None = 0
offset_by order (Some value) = long_at order value

-- the body of an interface block: the link type, two bytes that are not looked at, the snaplen, and options
pub record SpellsInterface (order : Order) (body : List ℕ) (interface : Interface) : Type 0 where
  pub a : ℕ
  pub b : ℕ
  pub c : ℕ
  pub d : ℕ
  pub longest : List ℕ
  pub options : List ℕ
  pub said : List OptionParts
  pub are : body ≡ a ∷ b ∷ c ∷ d ∷ (longest ++ options)
  pub link : interface.link ≡ two order a b
  pub longest_is : Spells order longest (interface.longest ∷ [])
  pub options_are : SpellsOptions order options said
  pub units : interface.units ≡ units_by (first_value 9 1 said)
  pub offset : interface.offset ≡ offset_by order (first_value 14 8 said)

-- ---- packets (sections 4.3 and 4.4, and the obsolete packet block of section A)

-- the direction in the low two bits of flags: 1 in, 2 out
abbrev pub direction_of : ℕ → Direction
direction_of flags = if flags % 4 == 1 then In else (if flags % 4 == 2 then Out else Unknown)

-- which way a frame went, by the option of its flags
abbrev pub direction_by : Order → Option (List ℕ) → Direction
direction_by order None = Unknown
direction_by order (Some value) = direction_of (number_at order value 0)

-- whether a frame was received with an error: the high 16 bits of its flags name errors of the link, 0 where there is none
abbrev pub damaged_by : Order → Option (List ℕ) → Bool
damaged_by order None = false
damaged_by order (Some value) = nat_lt 65535 (number_at order value 0)

-- how many packets were lost since the one before at the interface: the count in front of the frame, or else the option
abbrev pub missed_by : Order → Option ℕ → Option (List ℕ) → ℕ
missed_by order (Some count) value = count
missed_by order None None = 0
missed_by order None (Some value) = long_at order value

-- What follows the interface in an enhanced packet block, and in the obsolete one, where a count of lost packets stands in
-- front of it: two halves of the time, the captured length, the original length, the frame, padding, and options.
pub record SpellsTimed (order : Order) (interface : NamedInterface) (count : Option ℕ) (bytes : List ℕ) (frame : FrameParts) : Type 0 where
  pub high : ℕ
  pub low : ℕ
  pub front : List ℕ
  pub padding : List ℕ
  pub options : List ℕ
  pub said : List OptionParts
  pub are : bytes ≡ front ++ (frame.bytes ++ (padding ++ options))
  pub numbers : Spells order front (high ∷ low ∷ length frame.bytes ∷ frame.original ∷ [])
  pub padded : IsPadding (length frame.bytes) padding
  pub options_are : SpellsOptions order options said
  pub few : length frame.bytes ≤ longest_frame
  pub link : frame.link ≡ interface.described.link
  pub time : frame.time ≡ time_of interface.described (high * 2 ^ 32 + low)
  pub direction : frame.direction ≡ direction_by order (first_value 2 4 said)
  pub section : frame.section ≡ interface.section
  pub number : frame.interface ≡ interface.number
  pub damaged : frame.damaged ≡ damaged_by order (first_value 2 4 said)
  pub missed : frame.missed ≡ missed_by order count (first_value 4 8 said)

-- an enhanced packet block: four bytes name the interface
pub record SpellsEnhanced (order : Order) (interfaces : List NamedInterface) (body : List ℕ) (frame : FrameParts) : Type 0 where
  pub place : ℕ
  pub front : List ℕ
  pub rest : List ℕ
  pub interface : NamedInterface
  pub are : body ≡ front ++ rest
  pub place_is : Spells order front (place ∷ [])
  pub named : slice_get interfaces place ≡ Some interface
  pub timed : SpellsTimed order interface None rest frame

-- how many packets the count of two bytes says; 65,535 says none
abbrev pub count_said : ℕ → ℕ
count_said count = if count == 65535 then 0 else count

-- an obsolete packet block: two bytes name the interface, and two count lost packets
pub record SpellsObsolete (order : Order) (interfaces : List NamedInterface) (body : List ℕ) (frame : FrameParts) : Type 0 where
  pub a : ℕ
  pub b : ℕ
  pub c : ℕ
  pub d : ℕ
  pub rest : List ℕ
  pub interface : NamedInterface
  pub are : body ≡ a ∷ b ∷ c ∷ d ∷ rest
  pub named : slice_get interfaces (two order a b) ≡ Some interface
  pub timed : SpellsTimed order interface (Some (count_said (two order c d))) rest frame

-- how many bytes of a frame of so many an interface keeps
abbrev pub kept : ℕ → ℕ → ℕ
kept longest original = if longest == 0 then original else min original longest

-- a simple packet block, of the first interface: the original length, the frame, and padding
pub record SpellsSimple (order : Order) (interfaces : List NamedInterface) (body : List ℕ) (frame : FrameParts) : Type 0 where
  pub front : List ℕ
  pub padding : List ℕ
  pub rest : List ℕ
  pub interface : NamedInterface
  pub are : body ≡ front ++ (frame.bytes ++ (padding ++ rest))
  pub original : Spells order front (frame.original ∷ [])
  pub named : slice_get interfaces 0 ≡ Some interface
  pub sized : length frame.bytes ≡ kept interface.described.longest frame.original
  pub padded : IsPadding (length frame.bytes) padding
  pub few : length frame.bytes ≤ longest_frame
  pub link : frame.link ≡ interface.described.link
  pub time : frame.time ≡ None
  pub direction : frame.direction ≡ Unknown
  pub section : frame.section ≡ interface.section
  pub number : frame.interface ≡ interface.number
  pub damaged : frame.damaged ≡ false
  pub missed : frame.missed ≡ 0

-- the body of a block of this type says this frame
abbrev pub SpellsPacket : Order → List NamedInterface → ℕ → List ℕ → FrameParts → Type 0
SpellsPacket order interfaces kind body frame =
    ((kind ≡ 6) × SpellsEnhanced order interfaces body frame) ⊎ ((kind ≡ 3) × SpellsSimple order interfaces body frame) ⊎ ((kind ≡ 2) × SpellsObsolete order interfaces body frame)

-- ---- statistics (section 4.6)

-- the most that 64 bits can count
abbrev pub most_counted : ℕ
most_counted = 18446744073709551615

-- a number, or the most that 64 bits can count
abbrev pub capped : ℕ → ℕ
capped n = min n most_counted

-- how many packets a counter says, by its option
abbrev pub counter_by : Order → Option (List ℕ) → ℕ
counter_by order None = 0
counter_by order (Some value) = long_at order value

-- A statistics block: the interface, two halves of a time, and options. Since the capture began the interface dropped so many
-- packets for want of room, by `isb_ifdrop`, and the operating system so many, by `isb_osdrop`.
pub record SpellsStatistics (order : Order) (interfaces : List NamedInterface) (body : List ℕ) (dropped : Dropped) : Type 0 where
  pub high : ℕ
  pub low : ℕ
  pub front : List ℕ
  pub options : List ℕ
  pub said : List OptionParts
  pub are : body ≡ front ++ options
  pub numbers : Spells order front (dropped.interface ∷ high ∷ low ∷ [])
  pub named : dropped.interface < length interfaces
  pub options_are : SpellsOptions order options said
  pub count : dropped.count ≡ capped (counter_by order (first_value 5 8 said) + counter_by order (first_value 7 8 said))
