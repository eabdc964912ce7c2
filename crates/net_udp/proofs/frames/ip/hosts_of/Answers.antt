use Rattle.std.proofs.Common.{sym, ◌∙◌}
use Rattle.net_udp.specs.Frames.{reached}
use Rattle.net_udp.proofs.FramesLemmas.Uppers.{no_hosts}
use Rattle.net_udp.proofs.frames.ip.hosts_of.Goals as goal

pub returns-then-leads_on : goal.returns-then-leads_on
returns-then-leads_on c = no_hosts c.args.network c.args.bytes.now (reached c.in-Some.upper) c.in-Some.ensures (sym c.leads_on.ensures ∙ c.if-leads_on.true)

pub returns : goal.returns
returns c = (
  (c.has_header.ensures.0 c.if-not-has_header.false, (reached c.in-Some.upper, c.in-Some.ensures, sym c.leads_on.ensures ∙ c.if-leads_on.false)),
  c.hosts.ensures,
)
