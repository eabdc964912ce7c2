use Rattle.std.proofs.Common.{refl, arith}
use Rattle.std.proofs.lemmas.Option.{slice_get-get_or}
use Rattle.std.proofs.lemmas.Bool.Decides.{nat_tests}
use Rattle.net_pcap.proofs.Packets.{simple_spelled}
use Rattle.net_pcap.proofs.blocks.simple_of.Goals as goal

pub returns-clause-simple : goal.returns-clause-simple
returns-clause-simple c =
    simple_spelled c.args.order c.args.interfaces.now c.args.body.now _ c.kept-captured.result c.number-original.result _ c.if-body-lt4.false c.number-original.ensures c.kept-captured.ensures
    (slice_get-get_or c.args.interfaces.now 0 _ (grind (arith, nat_tests))) c.if-captured-gt-LONGEST_FRAME.false c.if-body-captured.false refl
