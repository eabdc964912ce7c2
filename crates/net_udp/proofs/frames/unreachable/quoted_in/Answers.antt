use Rattle.net_udp.proofs.FramesLemmas.Unreached.{too_short}
use Rattle.net_udp.proofs.frames.unreachable.quoted_in.Goals as goal

pub returns-in_default : goal.returns-in_default
returns-in_default c q quotes = c.in_default.ensures quotes.udp quotes.carries

pub returns-then-udp-lt4 : goal.returns-then-udp-lt4
returns-then-udp-lt4 c = too_short c.args.network c.args.bytes.now c.in-Some.udp.now c.in-Some.ensures c.if-udp-lt4.true
