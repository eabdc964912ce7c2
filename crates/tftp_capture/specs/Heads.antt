-- What a datagram's line says before its digits.
use Rattle.std.specs.Prelude.{◌≡◌, ℕ, ◌+◌, ◌*◌, ◌≤◌, List, [], ◌∷◌, ◌++◌, length, take, drop, decimal, Ok}
use Rattle.std.specs.List.{join_with_byte}
use Rattle.hex.specs.Hex.{decode_of}
use Rattle.tftp_packet.specs.Hosts.{IsHost, no_host}
use Rattle.tftp_packet.specs.{Dir}
use Rattle.tftp_capture.specs.CaptureText.{Datagram, IsPort, SaysDatagram, dir_word}
use Rattle.tftp_capture.specs.declared.heads.Head.TheInside.{Inside}
use Rattle.tftp_capture.specs.declared.version.Version.{Version}
use Rattle.tftp_capture.specs.declared.version.Version.TheVariants.{One, Two}

-- the fields of a datagram's line before its digits, a space behind each; version 1 has none for the host
abbrev pub head_text : Version → Dir → (local : ℕ) (host : List ℕ) (remote : ℕ) → List ℕ
head_text One dir local host remote = join_with_byte 32 (dir_word dir ∷ decimal local ∷ decimal remote ∷ [] ∷ [])
head_text Two dir local host remote = join_with_byte 32 (dir_word dir ∷ decimal local ∷ host ∷ decimal remote ∷ [] ∷ [])

-- a host that a line of this version may name: version 1 has no field for it
abbrev pub MayName : Version → List ℕ → Type 0
MayName One host = host ≡ no_host
MayName Two host = IsHost host

-- the bytes of a line before its digits, how many bytes the line has, and what the head says
pub record HeadState : Type 0 where
  pub bytes : List ℕ
  pub line : ℕ
  pub version : Version
  pub dir : Dir
  pub local : ℕ
  pub host : List ℕ
  pub remote : ℕ

-- the bytes say what is kept beside them
pub record IsHead (h : HeadState) : Type 0 where
  pub spelled : h.bytes ≡ head_text h.version h.dir h.local h.host h.remote
  pub local_port : IsPort h.local
  pub host : IsHost h.host
  pub named : MayName h.version h.host
  pub remote_port : IsPort h.remote

-- ---- how a head is held

abbrev pub head_held : Inside → HeadState
head_held h = record {
  bytes = take h.len h.bytes;
  line = h.line;
  version = h.version;
  dir = h.dir;
  local = h.local_port;
  host = h.remote_host;
  remote = h.remote_port;
}

pub record Holds (h : Inside) : Type 0 where
  pub sized : h.len ≤ 62
  pub head : IsHead (head_held h)

-- ---- the next line

-- the bytes begin with a head, and are no more than the line that it was of; that line has at most so many bytes, of which
-- behind the head two are digits for each byte of a payload that a datagram can carry
pub record BeginsWithHead (h : HeadState) (bytes : List ℕ) (most : ℕ) : Type 0 where
  pub begins : take (length h.bytes) bytes ≡ h.bytes
  pub upto : length bytes ≤ h.line
  pub narrow : h.line ≤ most
  pub count : ℕ
  pub pairs : h.line ≡ length h.bytes + 2 * count
  pub some : 1 ≤ count
  pub fits : count ≤ 65527

-- of what is held behind a head so many bytes of a payload are decoded
pub record IsDecoded (h : HeadState) (held payload : List ℕ) (count : ℕ) : Type 0 where
  pub begins : take (length h.bytes) held ≡ h.bytes
  pub decoded : decode_of (take (2 * count) (drop (length h.bytes) held)) ≡ Ok (take count payload)
  pub upto : count ≤ length payload
  pub within : length h.bytes + 2 * count ≤ length held

-- the line is a head and digits that spell the payload
pub record SpellsBehind (head line payload : List ℕ) : Type 0 where
  pub digits : List ℕ
  pub are : line ≡ head ++ digits
  pub decoded : decode_of digits ≡ Ok payload

-- the bytes begin with a head and this rest of a line of so many bytes, and an LF
pub record GoesOnAfter (head : List ℕ) (size : ℕ) (rest bytes : List ℕ) : Type 0 where
  pub more : List ℕ
  pub are : bytes ≡ (head ++ rest) ++ 10 ∷ more
  pub sized : length (head ++ rest) ≡ size

-- the bytes begin with a line of so many bytes that says the datagram, and its LF
pub record BeginsWithDatagram (version : Version) (bytes : List ℕ) (d : Datagram) (size : ℕ) : Type 0 where
  pub line : List ℕ
  pub more : List ℕ
  pub are : bytes ≡ line ++ 10 ∷ more
  pub sized : length line ≡ size
  pub says : SaysDatagram version line d
