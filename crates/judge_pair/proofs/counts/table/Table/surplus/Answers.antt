use Rattle.std.proofs.Common.{◌≡◌, ◌≤◌, ◌<◌, ◌-◌, min, length, ap, subst, sym, refl, ◌∙◌, arith, slice_index_or}
use Rattle.judge_pair.specs.Counts.{Answers, IsSurplus, packets}
use Rattle.judge_pair.proofs.CountsLemmas.Growing.{surplus_of_list, surplus_over}
use Rattle.judge_pair.proofs.counts.table.Table.surplus.Goals as goal

pub returns : goal.returns
returns c = λ above is.
    let low = c.loop-packet.auto.packet-end in
    let high = c.loop-packet-test.false in
    let end = c.min-packet-end.ensures in
    let len = c.len.ensures in
    let same = ap length c.self.view_is in
    let all : c.loop-packet.packet ≡ min (length c.args.self.now) above = omega (arith, low, high, end, len, same, is) in
    c.loop-packet.invariant.so_far ∙ sym (surplus_of_list c.args.self.now (λ p. slice_index_or c.args.other.now p 0) c.loop-packet.packet above all)

pub returns-in_err-count : goal.returns-in_err-count
returns-in_err-count c = subst (Answers (IsSurplus (λ p. slice_index_or c.args.self.now p 0) (λ p. slice_index_or c.args.other.now p 0))) (sym c.from_residual.ensures)
    (λ count is. subst (λ n. 18446744073709551616 ≤ n) (sym (is packets refl))
    (surplus_over 18446744073709551616 (λ p. slice_index_or c.args.self.now p 0) (λ p. slice_index_or c.args.other.now p 0) c.loop-packet.packet c.loop-packet.count c.saturating_sub-surplus.result packets
    (let low = c.loop-packet-test.true in let end = c.min-packet-end.ensures in let below : c.loop-packet.packet < packets = omega (arith, low, end) in below)
    c.loop-packet.invariant.so_far (c.saturating_sub-surplus.ensures ∙ (λ i. c.at.ensures i - c.at-in-loop-packet.ensures i)) c.in_err-count.ensures))
