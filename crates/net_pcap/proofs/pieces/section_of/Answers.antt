use Rattle.std.proofs.Common.{◌≡◌, length, sym, ap, ◌∙◌}
use Rattle.net_pcap.specs.{number_at}
use Rattle.net_pcap.proofs.Announced.{order_one}
use Rattle.net_pcap.proofs.Whole.{section_spelled, section_other}
use Rattle.net_pcap.proofs.pieces.section_of.Goals.{then-number-size-via-then-number-size, then-number-size-via-else-number-size+then-short-ne1}
use Rattle.net_pcap.proofs.pieces.section_of.Goals as goal

pub returns-then-number-size : goal.returns-then-number-size
returns-then-number-size c = λ order spelled.
    let known = section_other c.args.piece.now order c.in_ok-order.order spelled c.in_ok-order.ensures in
    elim c.then-number-size.branch [
      | then-number-size-via-then-number-size w ↦ w.if-number-size.true (sym (known.0 ∙ sym c.number.ensures))
      | then-number-size-via-else-number-size+then-short-ne1 w ↦ w.if-short-ne1.true (w.short.ensures ∙ known.1)
    ]

pub returns : goal.returns
returns c =
    let whole = c.requires.whole in
    let own = order_one whole.1 c.in_ok-order.order (sym whole.2 ∙ c.in_ok-order.ensures) in
    let sized : length c.args.piece.now ≡ number_at c.in_ok-order.order c.args.piece.now 4 = whole.3 ∙ ap (λ o. number_at o c.args.piece.now 4) own in
    section_spelled c.in_ok-order.order c.args.piece.now c.if-size-lt28.false whole.0 c.in_ok-order.ensures sized (sym c.if-number-size.false ∙ c.number.ensures) (sym c.short.ensures ∙ c.if-short-ne1.false) c.requires.words c.requires.few
