-- A recording is pieces, one after another: a header, and records; or blocks. What each says, by what stood before it.
use Rattle.std.specs.Prelude.{◌≡◌, ◌≢◌, ◌+◌, ◌%◌, ◌<◌, ◌≤◌, ◌⊎◌, ◌^◌, ℕ, Bool, true, false, List, [], ◌∷◌, ◌++◌, length, take, flat_map}
use Rattle.std.specs.List.{slice_range}
use Rattle.net_pcap.specs.Numbers.{Spells, number_at}
use Rattle.net_pcap.specs.Frames.{FrameParts, frame_at, longest_frame}
use Rattle.net_pcap.specs.Classic.{magic, SpellsHeader, SpellsRecord}
use Rattle.net_pcap.specs.Blocks.{SpellsBlock, SpellsSection, SpellsInterface, SpellsPacket, SpellsStatistics, capped, section_type, order_magic, longest_block, most_interfaces}
use Rattle.net_pcap.specs.declared.numbers.Order.{Order}
use Rattle.net_pcap.specs.declared.layout.Interface.{Interface}
use Rattle.net_pcap.specs.declared.layout.Dropped.{Dropped}
use Rattle.net_pcap.specs.declared.layout.NamedInterface.{NamedInterface}
use Rattle.net_pcap.specs.Losses.{changed, lost_in, with_missed, with_reported}
use Rattle.net_pcap.specs.declared.layout.Layout.{Layout}
use Rattle.net_pcap.specs.declared.layout.Layout.TheVariants.{Unopened, Classic, Blocks}
use Rattle.net_pcap.specs.declared.found.Found.{Found}
use Rattle.net_pcap.specs.declared.found.Found.TheVariants as found

-- what a piece says: how what follows is laid out, an interface, a frame, what an interface dropped, or nothing that counts
pub data Said : Type 0 where
  Opens : (layout : Layout) → Said
  Names : (interface : Interface) → Said
  Gives : (frame : FrameParts) → Said
  Counts : (dropped : Dropped) → Said
  Skips : Said

-- the first piece: the header of a classic recording, or a section header
abbrev pub OpensAs : List ℕ → Layout → Type 0
OpensAs piece Unopened = ⊥
OpensAs piece (Classic classic) = SpellsHeader piece classic
OpensAs piece (Blocks order) = SpellsSection piece order

-- a further section header
abbrev pub OpensAgain : List ℕ → Layout → Type 0
OpensAgain piece Unopened = ⊥
OpensAgain piece (Classic classic) = ⊥
OpensAgain piece (Blocks order) = SpellsSection piece order

-- what the body of a block says, by the block's type
abbrev pub BodySays : Order → List NamedInterface → ℕ → List ℕ → Said → Type 0
BodySays order interfaces kind body (Opens layout) = ⊥
BodySays order interfaces kind body (Names interface) = (kind ≡ 1) × SpellsInterface order body interface × (length interfaces < most_interfaces)
BodySays order interfaces kind body (Gives frame) = SpellsPacket order interfaces kind body frame
BodySays order interfaces kind body (Counts dropped) = (kind ≡ 5) × SpellsStatistics order interfaces body dropped
BodySays order interfaces kind body Skips = (kind ≢ 1) × (kind ≢ 2) × (kind ≢ 3) × (kind ≢ 6) × (kind ≢ 5)

-- a block that is no section header
abbrev pub BlockSays : Order → List NamedInterface → List ℕ → Said → Type 0
BlockSays order interfaces piece said = (type body : List ℕ) × (kind : ℕ) × SpellsBlock order piece type body × (type ≢ section_type) × Spells order type (kind ∷ []) × BodySays order interfaces kind body said

-- what a piece says, by the layout and the interfaces of the section so far
abbrev pub Says : Layout → List NamedInterface → List ℕ → Said → Type 0
Says Unopened interfaces piece (Opens layout) = OpensAs piece layout
Says Unopened interfaces piece _ = ⊥
Says (Classic classic) interfaces piece (Gives frame) = SpellsRecord classic piece frame
Says (Classic classic) interfaces piece _ = ⊥
Says (Blocks order) interfaces piece (Opens layout) = OpensAgain piece layout
Says (Blocks order) interfaces piece said = BlockSays order interfaces piece said

-- ---- pieces, one after another

-- what is known of the recording: its layout, how many headers stood before, how many packets were lost in the sections
-- before, and the interfaces of the section
pub record Mode : Type 0 where
  pub layout : Layout
  pub sections : ℕ
  pub before : ℕ
  pub interfaces : List NamedInterface

abbrev pub start : Mode
start = record { layout = Unopened; sections = 0; before = 0; interfaces = [] }

-- the bytes begin as a classic recording does (draft-ietf-opsawg-pcap, section 4)
abbrev pub BeginsAsClassic : List ℕ → Type 0
BeginsAsClassic bytes = (order : Order) × (nano : Bool) × (take 4 bytes ≡ magic order nano)

-- whether a recording that is laid out so may say that packets were lost: blocks may, and records have no place for it
abbrev pub may_lose : Layout → Bool
may_lose Unopened = true
may_lose (Classic classic) = false
may_lose (Blocks order) = true

-- how many packets the recorder lost up to here, as it says
abbrev pub lost_of : Mode → ℕ
lost_of mode = capped (mode.before + lost_in mode.interfaces)

-- an interface has the number of those that its section named before it (section 4.2), and nothing is lost there yet
abbrev pub named_in : Mode → Interface → NamedInterface
named_in mode interface = record { described = interface; section = mode.sections; number = length mode.interfaces; reported = 0; missed = 0 }

abbrev pub next_mode : Mode → Said → Mode
next_mode mode (Opens layout) = record { layout = layout; sections = mode.sections + 1; before = lost_of mode; interfaces = [] }
next_mode mode (Names interface) = record { layout = mode.layout; sections = mode.sections; before = mode.before; interfaces = mode.interfaces ++ named_in mode interface ∷ [] }
next_mode mode (Gives frame) = record { layout = mode.layout; sections = mode.sections; before = mode.before; interfaces = changed (with_missed frame.missed) frame.interface mode.interfaces }
next_mode mode (Counts dropped) = record { layout = mode.layout; sections = mode.sections; before = mode.before; interfaces = changed (with_reported dropped.count) dropped.interface mode.interfaces }
next_mode mode Skips = mode

abbrev pub given : Said → List FrameParts
given (Opens layout) = []
given (Names interface) = []
given (Gives frame) = frame ∷ []
given (Counts dropped) = []
given Skips = []

-- the pieces lead from one mode to another, and give these frames, in order
abbrev pub Follows : Mode → List (List ℕ) → Mode → List FrameParts → Type 0
Follows mode [] end frames = (end ≡ mode) × (frames ≡ [])
Follows mode (piece ∷ pieces) end frames = (said : Said) × (rest : List FrameParts) × Says mode.layout mode.interfaces piece said × (frames ≡ given said ++ rest) × Follows (next_mode mode said) pieces end rest

-- the bytes are so many whole pieces of a recording, after which this is known, and give these frames
pub record Stands (bytes : List ℕ) (mode : Mode) (count : ℕ) (frames : List FrameParts) : Type 0 where
  pub pieces : List (List ℕ)
  pub are : bytes ≡ flat_map (λ piece. piece) pieces
  pub follows : Follows start pieces mode frames
  pub counted : count ≡ length pieces

-- the bytes are a recording of these frames
pub record IsRecording (bytes : List ℕ) (frames : List FrameParts) : Type 0 where
  pub mode : Mode
  pub count : ℕ
  pub stands : Stands bytes mode count frames
  pub opened : mode.layout ≢ Unopened
  pub few : count < 2 ^ 40

-- the same, and this is known after them
abbrev pub IsRecordingTo : Mode → List ℕ → List FrameParts → Type 0
IsRecordingTo mode bytes frames = (is : IsRecording bytes frames) × (is.mode ≡ mode)

-- ---- how many bytes a piece has, by its own first bytes

-- the bytes begin as a recording does
abbrev pub BeginsAsOne : List ℕ → Type 0
BeginsAsOne bytes = (take 4 bytes ≡ section_type) ⊎ BeginsAsClassic bytes

-- a section header tells its length in its own order
abbrev pub AnnouncesSection : List ℕ → ℕ → Type 0
AnnouncesSection bytes size = (take 4 bytes ≡ section_type) × (order : Order) × (slice_range bytes 8 12 ≡ order_magic order) × (size ≡ number_at order bytes 4)

-- the first bytes of a piece, at least 12, or 16 of a record, tell how many bytes it has
abbrev pub Announces : Layout → List ℕ → ℕ → Type 0
Announces Unopened bytes size = (12 ≤ length bytes) × (AnnouncesSection bytes size ⊎ ((order : Order) × (nano : Bool) × (take 4 bytes ≡ magic order nano) × (size ≡ 24)))
Announces (Classic classic) bytes size = (16 ≤ length bytes) × (size ≡ 16 + number_at classic.order bytes 8)
Announces (Blocks order) bytes size = (12 ≤ length bytes) × (AnnouncesSection bytes size ⊎ ((take 4 bytes ≢ section_type) × (size ≡ number_at order bytes 4)))

-- the most bytes of a piece
abbrev pub longest_piece : Layout → ℕ
longest_piece Unopened = longest_block
longest_piece (Classic classic) = 16 + longest_frame
longest_piece (Blocks order) = longest_block

-- a block has at least 12 bytes, and a multiple of 4
abbrev pub IsRegular : Layout → ℕ → Type 0
IsRegular Unopened size = (12 ≤ size) × (size % 4 ≡ 0)
IsRegular (Classic classic) size = 16 ≤ size
IsRegular (Blocks order) size = (12 ≤ size) × (size % 4 ≡ 0)

abbrev pub IsSize : Layout → ℕ → Type 0
IsSize layout size = (size ≤ longest_piece layout) × IsRegular layout size

-- how many bytes of a piece are read first
abbrev pub front_of : Layout → ℕ
front_of Unopened = 12
front_of (Classic classic) = 16
front_of (Blocks order) = 12

-- ---- what was found in a piece

abbrev pub said_of : Found → List ℕ → Said
said_of (found.Opens layout) piece = Opens layout
said_of (found.Names interface) piece = Names interface
said_of (found.Gives place) piece = Gives (frame_at place piece)
said_of (found.Counts dropped) piece = Counts dropped
said_of found.Skips piece = Skips

-- where a frame lies that was found
abbrev pub LiesWithin : Found → List ℕ → Type 0
LiesWithin (found.Opens layout) piece = Unit {0}
LiesWithin (found.Names interface) piece = Unit {0}
LiesWithin (found.Gives place) piece = (place.start ≤ place.end) × (place.end ≤ length piece)
LiesWithin (found.Counts dropped) piece = Unit {0}
LiesWithin found.Skips piece = Unit {0}
