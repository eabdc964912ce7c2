use Rattle.std.proofs.Common.{sym, ◌∙◌}
use Rattle.net_udp.specs.Frames.{reached}
use Rattle.net_udp.proofs.FramesLemmas.Datagrams.{hidden, not_hidden}
use Rattle.net_udp.proofs.frames.udp.unread.Goals as goal

pub returns-in_default : goal.returns-in_default
returns-in_default c = λ r reaches. absurd (c.in_default.ensures r reaches)

pub returns-then-is_hidden_in : goal.returns-then-is_hidden_in
returns-then-is_hidden_in c = hidden c.args.protocol c.args.content.now (reached c.in-Some.upper) c.in-Some.ensures (sym c.is_hidden_in.ensures ∙ c.if-is_hidden_in.true)

pub returns-else-is_hidden_in : goal.returns-else-is_hidden_in
returns-else-is_hidden_in c = (c.requires, not_hidden c.args.protocol c.args.content.now (reached c.in-Some.upper) c.in-Some.ensures (sym c.is_hidden_in.ensures ∙ c.if-is_hidden_in.false))
