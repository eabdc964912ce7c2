use Rattle.std.proofs.Common.{arith}
use Rattle.std.proofs.lemmas.Option.{slice_get-get_or}
use Rattle.net_pcap.proofs.Packets.{answer_of, enhanced_spelled, enhanced_timed}
use Rattle.net_pcap.proofs.blocks.enhanced_of.Goals as goal

pub returns-clause-enhanced : goal.returns-clause-enhanced
returns-clause-enhanced c =
    let named = slice_get-get_or c.args.interfaces.now c.number-place.result _ (omega arith) in
    answer_of c.timed_of.result _ _ _ _ (λ never. enhanced_timed c.args.order c.args.interfaces.now c.args.body.now c.number-place.result _ c.if-body-lt20.false c.number-place.ensures named never)
    (λ place timed. enhanced_spelled c.args.order c.args.interfaces.now c.args.body.now c.number-place.result _ _ c.if-body-lt20.false c.number-place.ensures named timed) c.timed_of.ensures.timed
