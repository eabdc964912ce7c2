use Rattle.std.proofs.Common.{◌+◌, sym, ap, ◌∙◌, drop, arith}
use Rattle.std.specs.Ordering.{nat_cmp, is_lt}
use Rattle.std.specs.Cmp.Lexicographic.{slice_cmp}
use Rattle.tftp_packet.specs.{shown_entries, place}
use Rattle.tftp_packet.proofs.OwnedMaps.{place_here, place_later}
use Rattle.tftp_packet.proofs.owned_options.place_of.Goals as goal

pub returns-then-not-is_lt : goal.returns-then-not-is_lt
returns-then-not-is_lt c =
    let name = c.args.name.now in
    let over = ap (λ n. is_lt (slice_cmp nat_cmp n name)) (sym c.as_slice.ensures) ∙ ap is_lt (sym c.cmp.ensures) ∙ sym c.if-not-is_lt.ensures in
    let none = place_here c.args.entries.now c.loop-entry.entry-index c.entry-item.result c.loop-entry-test.true c.entry-item.is name over in
    let index = ap (λ n. place name (drop n (shown_entries c.args.entries.now))) c.loop-entry.invariant.0 in
    omega (arith, c.loop-entry.invariant.1)

pub loop-entry-preserved : goal.loop-entry-preserved
loop-entry-preserved c =
    let name = c.args.name.now in
    let under = ap (λ n. is_lt (slice_cmp nat_cmp n name)) (sym c.as_slice.ensures) ∙ ap is_lt (sym c.cmp.ensures) ∙ sym c.if-not-is_lt.ensures in
    let more = place_later c.args.entries.now c.loop-entry.entry-index c.entry-item.result c.loop-entry-test.true c.entry-item.is name under in
    let index = ap (λ n. place name (drop n (shown_entries c.args.entries.now))) c.loop-entry.invariant.0 in
    let next = ap (λ n. place name (drop (n + 1) (shown_entries c.args.entries.now))) c.loop-entry.invariant.0 in
    (ap (λ n. n + 1) c.loop-entry.invariant.0, omega (arith, c.loop-entry.invariant.1))
