-- What the values that were read say.
use Rattle.net_udp.specs.Frames.Link.{Linked}
use Rattle.net_udp.specs.Frames.Extension.{Reached}
use Rattle.net_udp.specs.Frames.Ip.{Packet}
use Rattle.net_udp.specs.declared.frames.link.LinkContent.{LinkContent}
use Rattle.net_udp.specs.declared.frames.extension.Upper.{Upper}
use Rattle.net_udp.specs.declared.frames.packet.IpPacket.{IpPacket}

abbrev pub linked : LinkContent → Linked
linked c = record { direction = c.direction; network = c.network; content = c.content.now }

abbrev pub reached : Upper → Reached
reached u = record { protocol = u.protocol; fragment = u.fragment; content = u.content.now }

abbrev pub shown : IpPacket → Packet
shown p = record {
  direction = p.direction;
  source = p.source;
  target = p.target;
  protocol = p.protocol;
  identification = p.identification;
  fragment = p.fragment;
  content = p.content.now;
  packet = p.packet.now;
}
