use Rattle.std.proofs.Common.{arith}
use Rattle.net_pcap.proofs.OptionCuts.{ends_spelled, option_spelled}
use Rattle.net_pcap.proofs.options.cut_option.Goals as goal

pub returns-then-code-eq0 : goal.returns-then-code-eq0
returns-then-code-eq0 c = ends_spelled c.args.order c.args.bytes.now _ (omega arith) c.short-code.ensures c.if-code-eq0.true

pub returns : goal.returns
returns c = option_spelled c.args.order c.args.bytes.now _ _ (omega arith) c.short-code.ensures c.if-code-eq0.false c.short-size.ensures c.if-bytes-padded.false
