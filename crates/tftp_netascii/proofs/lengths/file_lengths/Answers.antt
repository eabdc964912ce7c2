use Rattle.std.proofs.Common.{◌≡◌, ◌++◌, sym, ◌∙◌, arith}
use Rattle.std.proofs.lemmas.Bool.{eqb-true}
use Rattle.std.proofs.lemmas.List.{nil_from_length, take-append-drop}
use Rattle.tftp_netascii.specs.{count_after, begins_control, is_second}
use Rattle.tftp_netascii.proofs.LengthLemmas.{count_after-most, counted_on, counted_all, file_counted, encoded_counted}
use Rattle.tftp_netascii.proofs.lengths.file_lengths.Goals as goal
use Rattle.tftp_netascii.proofs.lengths.file_lengths.Goals.{After-split_at, After-loop-rest}

parts : (c : After-split_at) → c.split_at.result.0.now ++ c.split_at.result.1.now ≡ c.loop-rest.rest.now
parts c = rw (c.split_at.ensures.front, c.split_at.ensures.back) (take-append-drop c.min.result c.loop-rest.rest.now)

pub overflow_add-seconds : goal.overflow_add-seconds
overflow_add-seconds c =
    let few = counted_on is_second _ _ _ _ _ _ _ _ c.loop-rest.invariant.seconds (parts (goal.at.overflow_add-seconds c).After-split_at) (c.counts_in-counts.ensures.seconds c.split_at.result.1.now) in
    omega (arith, few, c.from-seconds.ensures)

pub overflow_add-controls : goal.overflow_add-controls
overflow_add-controls c =
    let few = counted_on begins_control _ _ _ _ _ _ _ _ c.loop-rest.invariant.controls (parts (goal.at.overflow_add-controls c).After-split_at) (c.counts_in-counts.ensures.controls c.split_at.result.1.now) in
    omega (arith, few, c.from-controls.ensures)

seconds : (c : After-loop-rest) → c.loop-rest.seconds ≡ count_after is_second 0 c.args.wire.now
seconds c = counted_all is_second _ _ _ _ c.loop-rest.invariant.seconds (nil_from_length _ (eqb-true _ _ (sym c.is_empty.ensures ∙ c.loop-rest-test.false)))

controls : (c : After-loop-rest) → c.loop-rest.controls ≡ count_after begins_control 0 c.args.wire.now
controls c = counted_all begins_control _ _ _ _ c.loop-rest.invariant.controls (nil_from_length _ (eqb-true _ _ (sym c.is_empty.ensures ∙ c.loop-rest-test.false)))

pub overflow_sub-file : goal.overflow_sub-file
overflow_sub-file c =
    let most = count_after-most is_second 0 c.args.wire.now in
    omega (arith, seconds c, most)

pub overflow_add-result : goal.overflow_add-result
overflow_add-result c =
    let most = count_after-most begins_control 0 c.args.wire.now in
    omega (arith, controls c, most)

pub returns-clause-file : goal.returns-clause-file
returns-clause-file c = omega (arith, seconds c, file_counted c.args.wire.now)

pub returns-clause-encoded : goal.returns-clause-encoded
returns-clause-encoded c = omega (arith, seconds c, controls c, file_counted c.args.wire.now, encoded_counted c.args.wire.now)
