-- What a packet that was read says.
use Rattle.std.specs.Prelude.{◌≤◌}
use Rattle.tftp_packet.specs.Messages.{Message, Request, Data, Ack, Error, Oack}
use Rattle.tftp_packet.specs.Written.{IsString, parts, map_of}
use Rattle.tftp_packet.specs.declared.packet.Packet.{Packet}
use Rattle.tftp_packet.specs.declared.packet.Packet.TheVariants as packet

abbrev pub meaning : Packet → Message
meaning (packet.Request request) = Request (parts request)
meaning (packet.Data block bytes) = Data block bytes.now
meaning (packet.Ack block) = Ack block
meaning (packet.Error code message) = Error code message.now
meaning (packet.Oack options) = Oack (map_of options)

-- some payload of bytes spells it: a block has two bytes for its number, and the message of an error no zero byte
abbrev pub IsSpellable : Packet → Type 0
IsSpellable (packet.Request request) = Unit {0}
IsSpellable (packet.Data block bytes) = block ≤ 65535
IsSpellable (packet.Ack block) = block ≤ 65535
IsSpellable (packet.Error code message) = IsString message.now
IsSpellable (packet.Oack options) = Unit {0}
