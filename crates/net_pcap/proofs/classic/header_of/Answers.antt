use Rattle.std.proofs.Common.{refl}
use Rattle.net_pcap.proofs.Records.{header_spelled}
use Rattle.net_pcap.proofs.classic.header_of.Goals as goal

pub returns : goal.returns
returns c = header_spelled c.args.bytes.now _ c.number.result c.requires c.in_ok-order.ensures (c.is_major.ensures.0 c.if-not-is_major.false) c.number.ensures refl
