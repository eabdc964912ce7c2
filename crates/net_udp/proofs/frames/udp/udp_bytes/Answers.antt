use Rattle.std.proofs.Common.{sym, ap, ◌∙◌}
use Rattle.std.specs.Option.{is_some}
use Rattle.std.proofs.lemmas.Bool.{false≢true}
use Rattle.net_udp.specs.Frames.{reached}
use Rattle.net_udp.proofs.FramesLemmas.Datagrams.{other_protocol, is_part_only, is_tunnel_only}
use Rattle.net_udp.proofs.frames.udp.udp_bytes.Goals as goal
use Rattle.net_udp.proofs.frames.udp.udp_bytes.Goals.{else-upper-eq-UDP-via-then-upper-eq-UDP+else-is_none, else-upper-eq-UDP-via-then-upper-eq-UDP+then-is_none+else-not-is_over_udp, else-upper-eq-UDP-via-else-upper-eq-UDP}

pub returns-else-upper-eq-UDP : goal.returns-else-upper-eq-UDP
returns-else-upper-eq-UDP c = elim c.else-upper-eq-UDP.branch [
  | else-upper-eq-UDP-via-then-upper-eq-UDP+then-is_none+else-not-is_over_udp w ↦ is_tunnel_only c.args.protocol c.args.content.now (reached c.in-Some.upper) c.in-Some.ensures (sym w.is_over_udp.ensures ∙ w.if-not-is_over_udp.false)
  | else-upper-eq-UDP-via-then-upper-eq-UDP+else-is_none w ↦ is_part_only c.args.protocol c.args.content.now (reached c.in-Some.upper) c.in-Some.ensures (λ none. false≢true (sym (ap is_some none) ∙ w.if-is_none.ensures))
  | else-upper-eq-UDP-via-else-upper-eq-UDP w ↦ other_protocol c.args.protocol c.args.content.now (reached c.in-Some.upper) c.in-Some.ensures w.if-upper-eq-UDP.false
]

pub returns-in_default : goal.returns-in_default
returns-in_default c bytes has = c.in_default.ensures _ has.0
