use Rattle.std.proofs.Common.{refl}
use Rattle.net_udp.proofs.RecordingLemmas.Examples.{icmp_fate, udp_fate}
use Rattle.net_udp.proofs.recording.laws.worked_protocols.Goals as goal

pub returns-clause-ipv6 : goal.returns-clause-ipv6
returns-clause-ipv6 c = refl

pub returns-clause-ipv4 : goal.returns-clause-ipv4
returns-clause-ipv4 c = refl

pub returns-clause-udp : goal.returns-clause-udp
returns-clause-udp c = udp_fate

pub returns-clause-icmp : goal.returns-clause-icmp
returns-clause-icmp c = icmp_fate
