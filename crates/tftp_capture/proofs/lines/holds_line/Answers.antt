use Rattle.std.proofs.Common.{◌≡◌, ◌<◌, length, take, true, false, sym, ◌∙◌, arith}
use Rattle.std.proofs.lemmas.List.{take_rest}
use Rattle.tftp_capture.specs.{says_nothing}
use Rattle.tftp_capture.proofs.Skips.{held_line, passes_one}
use Rattle.tftp_capture.proofs.lines.holds_line.Goals as goal

pub returns-then-not-is_skipped-clause-found : goal.returns-then-not-is_skipped-clause-found
returns-then-not-is_skipped-clause-found c = λ _.
    let e = c.count_before-count.ensures in
    let within : c.count_before-count.result < length c.lines.rest.now = omega (arith, e.within, c.if-count-rest.false) in
    let says : says_nothing (take c.count_before-count.result c.lines.rest.now) ≡ false = sym c.is_skipped.ensures ∙ c.if-not-is_skipped.true in
    held_line _ c.lines.rest.now c.count_before-count.result c.lines.invariant within (e.here within) e.none_before says

pub lines-preserved : goal.lines-preserved
lines-preserved c =
    let e = c.count_before-count.ensures in
    let within : c.count_before-count.result < length c.lines.rest.now = omega (arith, e.within, c.if-count-rest.false) in
    let nothing : says_nothing (take c.count_before-count.result c.lines.rest.now) ≡ true = sym c.is_skipped.ensures ∙ c.if-not-is_skipped.false in
    rw take_rest (passes_one _ c.lines.rest.now c.count_before-count.result c.lines.invariant within (e.here within) e.none_before nothing)
