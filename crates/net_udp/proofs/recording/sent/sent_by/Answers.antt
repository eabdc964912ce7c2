use Rattle.std.proofs.Common.{refl, sym, ap, ◌∙◌, take}
use Rattle.std.specs.Option.{option_map}
use Rattle.net_udp.specs.Fragments.{content_of as put_together}
use Rattle.net_udp.specs.Frames.{Packet, checksum_of, datagram, pair, shown}
use Rattle.net_udp.proofs.RecordingLemmas.Bringing.{has_udp_here, has_udp_of, no_udp_read, not_read, packet_read, spells_here, spells_udp_here, spells_udp_of}
use Rattle.net_udp.proofs.recording.sent.sent_by.Goals as goal

pub returns-in_default : goal.returns-in_default
returns-in_default c = λ p udp has. not_read c.read_frame.result p c.in_default.field-0 c.in_default.is (c.read_frame.ensures.only p (spells_here _ _ _ _ p c.link.ensures c.bytes.ensures has.0))

pub returns-in-Ok-read_udp : goal.returns-in-Ok-read_udp
returns-in-Ok-read_udp c = (
  shown c.in-Ok.packet,
  datagram c.in-Ok-read_udp.field-0,
  (
    spells_here _ _ _ _ (shown c.in-Ok.packet) (sym c.link.ensures) (sym c.bytes.ensures) c.in-Ok.ensures.found,
    spells_udp_here _ _ _ _ (datagram c.in-Ok-read_udp.field-0) c.content_of-protocol.ensures.protocol c.content_of-protocol.ensures.bytes c.in-Ok-read_udp.ensures.found,
  ),
  refl,
  λ p bytes spells has sized.
      let same = packet_read c.read_frame.result p c.in-Ok.packet c.in-Ok.is (c.read_frame.ensures.only p (spells_here _ _ _ _ p c.link.ensures c.bytes.ensures spells)) in
      let own = has_udp_of p (shown c.in-Ok.packet) (option_map (λ content. put_together content.now) c.args.whole) bytes same has in
      let here = has_udp_here _ _ _ _ bytes c.content_of-protocol.ensures.protocol c.content_of-protocol.ensures.bytes own in
      c.checksum.ensures bytes here sized ∙ ap (λ (x : Packet). checksum_of x (take (pair bytes 4) bytes)) same,
)

pub returns-in-Err : goal.returns-in-Err
returns-in-Err c = λ p udp has.
    let same = packet_read c.read_frame.result p c.in-Ok.packet c.in-Ok.is (c.read_frame.ensures.only p (spells_here _ _ _ _ p c.link.ensures c.bytes.ensures has.0)) in
    let own = spells_udp_of p (shown c.in-Ok.packet) (option_map (λ content. put_together content.now) c.args.whole) udp same has.1 in
    no_udp_read c.read_udp.result udp c.in-Err.field-0 c.in-Err.is (c.read_udp.ensures.only udp (spells_udp_here _ _ _ _ udp (sym c.content_of-protocol.ensures.protocol) (sym c.content_of-protocol.ensures.bytes) own))
