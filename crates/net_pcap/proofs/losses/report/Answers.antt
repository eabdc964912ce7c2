use Rattle.std.proofs.Common.{ℕ, ap, arith, slice_index_or}
use Rattle.std.proofs.lemmas.Grind.{common_steps}
use Rattle.net_pcap.specs.{with_reported}
use Rattle.net_pcap.proofs.Statistics.{changed_is, lost_more, no_interface_there, none_changed}
use Rattle.net_pcap.proofs.losses.report.Goals as goal

pub returns-then-place-interfaces-clause-changed : goal.returns-then-place-interfaces-clause-changed
returns-then-place-interfaces-clause-changed c = none_changed (with_reported c.args.count) c.args.number c.args.interfaces.now c.if-place-interfaces.true

pub returns-clause-changed : goal.returns-clause-changed
returns-clause-changed c =
    let old = slice_index_or c.args.interfaces.now c.args.number no_interface_there in
    changed_is (with_reported c.args.count) c.args.interfaces.now c.args.number no_interface_there _ c.if-place-interfaces.false (ap (λ (n : ℕ). record old { reported = n }) c.max.ensures)

pub returns-clause-more : goal.returns-clause-more
returns-clause-more c =
    let old = slice_index_or c.args.interfaces.now c.args.number no_interface_there in
    lost_more (with_reported c.args.count) c.args.interfaces.now c.args.number no_interface_there _ c.lost.result c.lost-2.result c.if-place-interfaces.false (ap (λ (n : ℕ). record old { reported = n }) c.max.ensures)
    c.lost.ensures c.lost-2.ensures (grind (arith, common_steps, c.max.ensures, c.lost.ensures, c.lost-2.ensures))
