-- What a packet says, without where its bytes lie in memory (RFC 1350, section 5; RFC 2347).
use Rattle.std.specs.Prelude.{ℕ, List}
use Rattle.tftp_packet.specs.OptionMaps.{OptionMap}
use Rattle.tftp_packet.specs.declared.kinds.Side.{Side}
use Rattle.tftp_packet.specs.declared.kinds.Mode.{Mode}

pub record RequestParts : Type 0 where
  pub side : Side
  pub name : List ℕ
  pub mode : Mode
  pub options : OptionMap

pub data Message : Type 0 where
  Request : (parts : RequestParts) → Message
  Data : (block : ℕ) (bytes : List ℕ) → Message
  Ack : (block : ℕ) → Message
  Error : (code : ℕ) (message : List ℕ) → Message
  Oack : (options : OptionMap) → Message
