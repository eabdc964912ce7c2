-- Which packet a message is a copy of (RFC 1350, section 5; RFC 2347).
use Rattle.tftp_packet.specs.{Message, Request, Data, Ack, Error, Oack}
use Rattle.judge_pair.specs.declared.counts.packets.CountedPacket.{CountedPacket}
use Rattle.judge_pair.specs.declared.counts.packets.CountedPacket.TheVariants as packet

-- the packet under which a message is counted: a request and an OACK open a transfer
abbrev pub named : Message → CountedPacket
named (Request parts) = packet.Opening
named (Data block bytes) = packet.Data block
named (Ack block) = packet.Ack block
named (Error code message) = packet.Error
named (Oack options) = packet.Opening
