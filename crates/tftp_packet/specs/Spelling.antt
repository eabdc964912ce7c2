-- Which bytes spell which packet (RFC 1350, section 5; RFC 2347, section "Packet Formats").
use Rattle.std.specs.Prelude.{◌≡◌, ◌≢◌, ◌+◌, ◌*◌, ◌<◌, ◌≤◌, ℕ, List, [], ◌∷◌, length, codes}
use Rattle.std.specs.List.{AllByRecursion}
use Rattle.tftp_packet.specs.OptionMaps.{OptionMap, lower, no_options}
use Rattle.tftp_packet.specs.Messages.{RequestParts, Message, Request, Data, Ack, Error, Oack}
use Rattle.tftp_packet.specs.Written.{IsString, AreStrings, terminated, strings, Pair, pair_strings, AreNamed, AreApart, map_of}
use Rattle.tftp_packet.specs.declared.kinds.Side.{Side}
use Rattle.tftp_packet.specs.declared.kinds.Side.TheVariants.{Get, Put}
use Rattle.tftp_packet.specs.declared.kinds.Mode.{Mode}
use Rattle.tftp_packet.specs.declared.kinds.Mode.TheVariants.{Octet, Netascii}

-- two bytes, and the number that they are
abbrev pub IsPair : ℕ → ℕ → ℕ → Type 0
IsPair x y n = (x < 256) × (y < 256) × (n ≡ 256 * x + y)

-- The two parts of a block's place. Where the first one is a byte they are the block's number, which has two bytes
-- (RFC 1350, section 5); a block above 65535 has more in it.
abbrev pub IsPlace : ℕ → ℕ → ℕ → Type 0
IsPlace x y n = (y < 256) × (n ≡ 256 * x + y)

-- the opcode of a request
abbrev pub side_opcode : Side → ℕ
side_opcode Get = 1
side_opcode Put = 2

abbrev pub mode_name : Mode → List ℕ
mode_name Octet = codes "octet"
mode_name Netascii = codes "netascii"

-- a request's bytes, for some spelling of its mode and of its options
pub record SpellsRequest (payload : List ℕ) (request : RequestParts) : Type 0 where
  pub mode_text : List ℕ
  pub pairs : List Pair
  pub bytes : payload ≡ 0 ∷ side_opcode request.side ∷ strings (request.name ∷ mode_text ∷ pair_strings pairs)
  pub strung : AreStrings (request.name ∷ mode_text ∷ pair_strings pairs)
  pub named : AreNamed pairs
  pub apart : AreApart pairs
  pub mode : lower mode_text ≡ mode_name request.mode
  pub options : request.options ≡ map_of pairs
  pub short : pairs ≢ [] → length payload ≤ 512

-- an OACK's bytes, for some spelling of its options
pub record SpellsOack (payload : List ℕ) (options : OptionMap) : Type 0 where
  pub pairs : List Pair
  pub bytes : payload ≡ 0 ∷ 6 ∷ strings (pair_strings pairs)
  pub strung : AreStrings (pair_strings pairs)
  pub named : AreNamed pairs
  pub apart : AreApart pairs
  pub map : options ≡ map_of pairs

-- the layout of each packet
abbrev pub Layout : List ℕ → Message → Type 0
Layout payload (Request request) = SpellsRequest payload request
Layout payload (Data block bytes) = (x y : ℕ) × IsPlace x y block × (payload ≡ 0 ∷ 3 ∷ x ∷ y ∷ bytes)
Layout payload (Ack block) = (x y : ℕ) × IsPlace x y block × (payload ≡ 0 ∷ 4 ∷ x ∷ y ∷ [])
Layout payload (Error code message) = (x y : ℕ) × IsPair x y code × IsString message × (payload ≡ 0 ∷ 5 ∷ x ∷ y ∷ terminated message)
Layout payload (Oack options) = SpellsOack payload options

-- a payload without its third element
abbrev pub but_third : List ℕ → List ℕ
but_third (a ∷ b ∷ c ∷ rest) = a ∷ b ∷ rest
but_third payload = payload

-- what has to be bytes: of DATA and ACK all but the first part of the block's place
abbrev pub bytes_in : Message → List ℕ → List ℕ
bytes_in (Data block bytes) payload = but_third payload
bytes_in (Ack block) payload = but_third payload
bytes_in (Request request) payload = payload
bytes_in (Error code message) payload = payload
bytes_in (Oack options) payload = payload

-- the payload is bytes, laid out as the packet; the first part of a block's place may be more than a byte
abbrev pub Spells : List ℕ → Message → Type 0
Spells payload message = AllByRecursion (λ b. b < 256) (bytes_in message payload) × Layout payload message

-- a request to read a file in octet mode, without options
abbrev pub octet_read : List ℕ → RequestParts
octet_read name = record { side = Get; name = name; mode = Octet; options = no_options }
