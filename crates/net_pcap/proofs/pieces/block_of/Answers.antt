use Rattle.std.proofs.Common.{sym, refl, ◌∙◌}
use Rattle.std.proofs.lemmas.Bool.{false≢true}
use Rattle.net_pcap.proofs.Bodies.{wrong_end, interface_answer, statistics_answer, skipped, packet_found, no_packet}
use Rattle.net_pcap.proofs.pieces.block_of.Goals as goal

pub returns-then-number-size-clause-says : goal.returns-then-number-size-clause-says
returns-then-number-size-clause-says c =
    wrong_end c.args.order c.args.interfaces.now c.args.piece.now c.requires.least c.requires.whole c.requires.words c.requires.few c.requires.other _ refl c.number.result c.number.ensures c.if-number-size.true

pub returns-then-kind-eq-INTERFACE-clause-says : goal.returns-then-kind-eq-INTERFACE-clause-says
returns-then-kind-eq-INTERFACE-clause-says c =
    interface_answer c.args.order c.args.interfaces.now c.args.piece.now c.requires.least c.requires.whole c.requires.words c.requires.few c.requires.other c.number-kind.result c.number-kind.ensures (sym c.if-number-size.false ∙ c.number.ensures)
    c.if-kind-eq-INTERFACE.true c.named_by.result c.named_by.ensures

pub returns-then-kind-eq-STATISTICS-clause-says : goal.returns-then-kind-eq-STATISTICS-clause-says
returns-then-kind-eq-STATISTICS-clause-says c =
    statistics_answer c.args.order c.args.interfaces.now c.args.piece.now c.requires.least c.requires.whole c.requires.words c.requires.few c.requires.other c.number-kind.result c.number-kind.ensures (sym c.if-number-size.false ∙ c.number.ensures)
    c.if-kind-eq-STATISTICS.true c.counted_by.result c.counted_by.ensures

pub returns-then-not-is_packet-clause-says : goal.returns-then-not-is_packet-clause-says
returns-then-not-is_packet-clause-says c =
    skipped c.args.order c.args.interfaces.now c.args.piece.now c.requires.least c.requires.whole c.requires.words c.requires.few c.requires.other c.number-kind.result c.number-kind.ensures (sym c.if-number-size.false ∙ c.number.ensures)
    c.if-kind-eq-INTERFACE.false c.if-kind-eq-STATISTICS.false (λ packet. false≢true (sym c.if-not-is_packet.true ∙ c.is_packet.ensures.1 packet))

pub returns-in-Some-clause-says : goal.returns-in-Some-clause-says
returns-in-Some-clause-says c =
    packet_found c.args.order c.args.interfaces.now c.args.piece.now c.requires.least c.requires.whole c.requires.words c.requires.few c.requires.other c.number-kind.result c.number-kind.ensures (sym c.if-number-size.false ∙ c.number.ensures)
    c.in-Some.place c.in-Some.ensures.within.0 c.in-Some.ensures.within.1 c.in-Some.ensures.packet c.moved.result c.moved.ensures

pub returns-in-None-clause-says : goal.returns-in-None-clause-says
returns-in-None-clause-says c =
    no_packet c.args.order c.args.interfaces.now c.args.piece.now c.requires.least c.requires.whole c.requires.words c.requires.few c.requires.other c.number-kind.result c.number-kind.ensures (sym c.if-number-size.false ∙ c.number.ensures)
    c.if-kind-eq-INTERFACE.false c.if-kind-eq-STATISTICS.false (c.is_packet.ensures.0 c.if-not-is_packet.false) c.in-None.ensures.packet
