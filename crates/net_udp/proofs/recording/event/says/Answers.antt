use Rattle.std.proofs.Common.{inr, Err, refl, sym, ap, ◌∙◌}
use Rattle.net_udp.specs.Frames.{shown, datagram}
use Rattle.net_pcap.specs.{Direction}
use Rattle.net_udp.specs.Recording.{direction_of}
use Rattle.net_udp.specs.declared.frames.fault.UdpFault.TheVariants.{Protocol as NotUdp}
use Rattle.net_udp.proofs.RecordingLemmas.Bringing.{holds_udp_here, spells_here, spells_udp_here}
use Rattle.net_udp.proofs.recording.event.says.Goals as goal

pub returns-in-Ok-read_udp-clause-says : goal.returns-in-Ok-read_udp-clause-says
returns-in-Ok-read_udp-clause-says c = (
  shown c.in-Ok.packet,
  datagram c.in-Ok-read_udp.udp,
  spells_here _ _ _ _ (shown c.in-Ok.packet) (sym c.link.ensures) (sym c.bytes.ensures) c.in-Ok.ensures.found,
  spells_udp_here _ _ _ _ (datagram c.in-Ok-read_udp.udp) c.content_of-protocol.ensures.protocol c.content_of-protocol.ensures.bytes c.in-Ok-read_udp.ensures.found,
  record {
    direction = c.direction_of.ensures ∙ ap (λ (d : Direction). direction_of d c.in-Ok.packet.direction) c.direction.ensures;
    source = refl;
    source_port = refl;
    target = refl;
    target_port = refl;
    payload = refl;
  },
)

pub returns-in-Err-Protocol-clause-says : goal.returns-in-Err-Protocol-clause-says
returns-in-Err-Protocol-clause-says c = inr (
  refl,
  (
    shown c.in-Ok.packet,
    spells_here _ _ _ _ (shown c.in-Ok.packet) (sym c.link.ensures) (sym c.bytes.ensures) c.in-Ok.ensures.found,
    holds_udp_here NotUdp _ _ _ _ c.content_of-protocol.ensures.protocol c.content_of-protocol.ensures.bytes ((c.read_udp.ensures.fault NotUdp).0 (c.in-Err-Protocol.is ∙ ap Err c.in-Err-Protocol.field-0-is)),
  ),
)
