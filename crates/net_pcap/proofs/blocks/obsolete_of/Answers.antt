use Rattle.std.proofs.Common.{arith}
use Rattle.std.proofs.lemmas.Option.{slice_get-get_or}
use Rattle.net_pcap.proofs.Packets.{answer_of, obsolete_spelled, obsolete_timed}
use Rattle.net_pcap.specs.{count_said}
use Rattle.std.proofs.Common.{ap, ◌∙◌}
use Rattle.net_pcap.proofs.blocks.obsolete_of.Goals as goal

pub returns-clause-obsolete : goal.returns-clause-obsolete
returns-clause-obsolete c =
    let named = slice_get-get_or c.args.interfaces.now c.short-place.result _ (omega arith) in
    let count = c.count_said-count.ensures ∙ ap count_said c.short.ensures in
    answer_of c.timed_of.result _ _ _ _ (λ never. obsolete_timed c.args.order c.args.interfaces.now c.args.body.now c.short-place.result _ _ c.if-body-lt20.false c.short-place.ensures count named never)
    (λ place timed. obsolete_spelled c.args.order c.args.interfaces.now c.args.body.now c.short-place.result _ _ _ c.if-body-lt20.false c.short-place.ensures count named timed) c.timed_of.ensures.timed
