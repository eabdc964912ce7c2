use Rattle.std.proofs.Common.{◌≡◌, ◌+◌, ◌<◌, ◌≤◌, ◌∷◌, ◌++◌, [], length, take, drop, get_or, sym, ap, ◌∙◌, arith, append_assoc, length-append, length-take-le}
use Rattle.std.proofs.lemmas.Bool.Decides.{nat_tests}
use Rattle.std.proofs.lemmas.List.{get_or-drop, length-drop, take_rest}
use Rattle.std.proofs.Math.Seq.{take-length}
use Rattle.std.proofs.KnownBytes.{Keeps-trans}
use Rattle.tftp_capture.specs.{HasNoEnd, IsPartOfLine}
use Rattle.tftp_capture.proofs.Bytes.{byte_in, held_all, held_first, held_some, line_ended, line_lies, no_end_at, no_end_on}
use Rattle.tftp_capture.proofs.line.read_line.Goals as goal
use Rattle.tftp_capture.proofs.line.read_line.Goals.{then-room-count, else-room-count+then-whole, else-room-count+else-whole, else-room-longest-via-then-room-longest+else-over, else-room-longest-via-else-room-longest}

pub returns-then-over-clause-ends : goal.returns-then-over-clause-ends
returns-then-over-clause-ends g c =
    let held = c.reads.ahead.bytes in
    let seen = c.reads.seen in
    let found = c.count_before.result in
    let same = c.as_slice-held.ensures in
    let all : length c.as_slice-held.result.now ≡ length held = ap length same in
    let no_end : HasNoEnd (take (seen + found) held) = no_end_on held seen found c.reads.invariant.part.no_end (rw same at (rw take_rest at c.count_before.ensures.none_before)) in
    let places : (c.args.room ≤ seen + found) × (c.args.room < length held) =
    elim c.if-room-count.branch [
      | then-room-count w ↦ (omega arith, omega (arith, all, length-drop seen held, rw same at (rw take_rest at c.count_before.ensures.within)))
      | else-room-count+then-whole w ↦ (grind (arith, nat_tests), grind (arith, nat_tests))
      | else-room-count+else-whole w ↦ (grind (arith, nat_tests), grind (arith, nat_tests))
    ] in (
      held,
      rw (c.consume.ensures.value, same) (held_all _ _ held c.reads.invariant.kept),
      (get_or held c.args.room 0, byte_in held (seen + found) c.args.room no_end places.0 places.1, c.if-room-longest.true),
    )

pub returns-then-count-longest-clause-ends : goal.returns-then-count-longest-clause-ends
returns-then-count-longest-clause-ends g c =
    let held = c.reads.ahead.bytes in
    let seen = c.reads.seen in
    let found = c.count_before.result in
    let same = c.as_slice-held.ensures in
    let all : length c.as_slice-held.result.now ≡ length held = ap length same in
    let no_end : HasNoEnd (take (seen + found) held) = no_end_on held seen found c.reads.invariant.part.no_end (rw same at (rw take_rest at c.count_before.ensures.none_before)) in
    let upto : seen + found ≤ length held = omega (arith, length-drop seen held, c.reads.invariant.within, rw same at (rw take_rest at c.count_before.ensures.within)) in
    let high : c.args.longest < seen + found = c.if-count-longest.true in
    let within : c.args.longest < length held = omega (arith, upto, high) in (
      held,
      rw (c.consume-then-count-longest.ensures.value, same) (held_all _ _ held c.reads.invariant.kept),
      (
        get_or held c.args.longest 0,
        byte_in held (seen + found) c.args.longest no_end (omega (arith, high)) within,
        no_end_at held (seen + found) c.args.longest no_end high within,
        elim c.else-room-longest.branch [
          | else-room-longest-via-then-room-longest+else-over w ↦ elim c.if-room-count.branch [
            | then-room-count v ↦ grind (arith, nat_tests)
            | else-room-count+then-whole v ↦ grind (arith, nat_tests)
            | else-room-count+else-whole v ↦ grind (arith, nat_tests)
          ]
          | else-room-longest-via-else-room-longest w ↦ omega arith
        ],
      ),
    )

pub returns-then-whole-2-clause-ends : goal.returns-then-whole-2-clause-ends
returns-then-whole-2-clause-ends g c =
    let held = c.reads.ahead.bytes in
    let seen = c.reads.seen in
    let found = c.count_before.result in
    let same = c.as_slice-held.ensures in
    let all : length c.as_slice-held.result.now ≡ length held = ap length same in
    let no_end : HasNoEnd (take (seen + found) held) = no_end_on held seen found c.reads.invariant.part.no_end (rw same at (rw take_rest at c.count_before.ensures.none_before)) in
    let within : seen + found < length held = rw same at c.if-whole-2.true in
    let behind : found < length (drop seen held) = omega (arith, length-drop seen held, within) in
    let here : get_or held (seen + found) 0 ≡ 10 = sym (get_or-drop seen held found 0) ∙ (rw same at (rw take_rest at c.count_before.ensures.here)) behind in
    let ended : take (seen + found + 1) held ≡ take (seen + found) held ++ 10 ∷ [] = line_ended held (seen + found) within here in
    let size : length (take (seen + found) held) ≡ seen + found = length-take-le (seen + found) held (omega (arith, within)) in
    let fits : seen + found < c.args.room =
    elim c.else-room-longest.branch [
      | else-room-longest-via-then-room-longest+else-over w ↦ elim c.if-room-count.branch [
        | then-room-count v ↦ grind (arith, nat_tests)
        | else-room-count+then-whole v ↦ grind (arith, nat_tests)
        | else-room-count+else-whole v ↦ grind (arith, nat_tests)
      ]
      | else-room-longest-via-else-room-longest w ↦ omega arith
    ] in (
      take (seen + found + 1) held,
      held_some _ _ held (seen + found + 1) c.reads.invariant.kept,
      rw (line_lies (seen + found) held) (
        ended,
        record { no_end = no_end; narrow = omega (arith, size, c.if-count-longest.false); short = omega (arith, size, fits) },
        omega (arith, size, fits),
      ),
    )

pub returns-in-Err-clause-ends : goal.returns-in-Err-clause-ends
returns-in-Err-clause-ends g c =
    let held = c.reads.ahead.bytes in
    let seen = c.reads.seen in
    let found = c.count_before.result in
    let same = c.as_slice-held.ensures in
    let all : length c.as_slice-held.result.now ≡ length held = ap length same in
    let no_end : HasNoEnd (take (seen + found) held) = no_end_on held seen found c.reads.invariant.part.no_end (rw same at (rw take_rest at c.count_before.ensures.none_before)) in
    let whole : seen + found ≡ length held = omega (arith, all, length-drop seen held, c.reads.invariant.within, c.if-whole-2.false, rw same at (rw take_rest at c.count_before.ensures.within)) in
    let fits : length held ≤ c.args.room =
    elim c.else-room-longest.branch [
      | else-room-longest-via-then-room-longest+else-over w ↦ elim c.if-room-count.branch [
        | then-room-count v ↦ grind (arith, nat_tests)
        | else-room-count+then-whole v ↦ grind (arith, nat_tests)
        | else-room-count+else-whole v ↦ grind (arith, nat_tests)
      ]
      | else-room-longest-via-else-room-longest w ↦ omega arith
    ] in (
      held,
      rw (c.consume-in-Err.ensures.value, same, c.in-Err.ensures.none) (held_all _ _ held (Keeps-trans _ _ _ c.reads.invariant.kept (rw c.in-Err.ensures.none at c.in-Err.ensures.kept))),
      record { no_end = rw (whole, take-length) at no_end; narrow = omega (arith, whole, c.if-count-longest.false); short = fits },
    )

pub returns-then-as_slice-all-clause-ends : goal.returns-then-as_slice-all-clause-ends
returns-then-as_slice-all-clause-ends g c =
    let held = c.reads.ahead.bytes in
    let new = c.read_on.new.self.bytes in
    let seen = c.reads.seen in
    let found = c.count_before.result in
    let same = c.as_slice-held.ensures in
    let all : length c.as_slice-held.result.now ≡ length held = ap length same in
    let no_end : HasNoEnd (take (seen + found) held) = no_end_on held seen found c.reads.invariant.part.no_end (rw same at (rw take_rest at c.count_before.ensures.none_before)) in
    let whole : seen + found ≡ length held = omega (arith, all, length-drop seen held, c.reads.invariant.within, c.if-whole-2.false, rw same at (rw take_rest at c.count_before.ensures.within)) in
    let front : take (length held) new ≡ held = ap (take (length held)) c.read_on.ensures.more.1 ∙ held_first held c.read_on.ensures.more.0 in
    let fits : length held ≤ c.args.room =
    elim c.else-room-longest.branch [
      | else-room-longest-via-then-room-longest+else-over w ↦ elim c.if-room-count.branch [
        | then-room-count v ↦ grind (arith, nat_tests)
        | else-room-count+then-whole v ↦ grind (arith, nat_tests)
        | else-room-count+else-whole v ↦ grind (arith, nat_tests)
      ]
      | else-room-longest-via-else-room-longest w ↦ omega arith
    ] in (
      held,
      rw (c.consume-then-as_slice-all.ensures.value, same) (rw front at (held_some _ _ new (length held) (Keeps-trans _ _ _ c.reads.invariant.kept c.read_on.ensures.kept))),
      record { no_end = rw (whole, take-length) at no_end; narrow = omega (arith, whole, c.if-count-longest.false); short = fits },
    )

pub reads-preserved : goal.reads-preserved
reads-preserved g c =
    let held = c.reads.ahead.bytes in
    let new = c.read_on.new.self.bytes in
    let seen = c.reads.seen in
    let found = c.count_before.result in
    let same = c.as_slice-held.ensures in
    let all : length c.as_slice-held.result.now ≡ length held = ap length same in
    let no_end : HasNoEnd (take (seen + found) held) = no_end_on held seen found c.reads.invariant.part.no_end (rw same at (rw take_rest at c.count_before.ensures.none_before)) in
    let whole : seen + found ≡ length held = omega (arith, all, length-drop seen held, c.reads.invariant.within, c.if-whole-2.false, rw same at (rw take_rest at c.count_before.ensures.within)) in
    let front : take (length held) new ≡ held = ap (take (length held)) c.read_on.ensures.more.1 ∙ held_first held c.read_on.ensures.more.0 in
    let grew : length new ≡ length held + length c.read_on.ensures.more.0 = ap length c.read_on.ensures.more.1 ∙ length-append held c.read_on.ensures.more.0 in
    let fits : length held ≤ c.args.room =
    elim c.else-room-longest.branch [
      | else-room-longest-via-then-room-longest+else-over w ↦ elim c.if-room-count.branch [
        | then-room-count v ↦ grind (arith, nat_tests)
        | else-room-count+then-whole v ↦ grind (arith, nat_tests)
        | else-room-count+else-whole v ↦ grind (arith, nat_tests)
      ]
      | else-room-longest-via-else-room-longest w ↦ omega arith
    ] in
    let part : IsPartOfLine held c.args.longest c.args.room = record { no_end = rw (whole, take-length) at no_end; narrow = omega (arith, whole, c.if-count-longest.false); short = fits } in
    record {
      tally = rw c.in_default.is at c.read_on.ensures.ok ∙ c.reads.invariant.tally;
      within = omega (arith, all, grew);
      near = omega (arith, all, grew, c.read_on.ensures.more.2);
      more = (
        c.reads.invariant.more.0 ++ c.read_on.ensures.more.0,
        c.read_on.ensures.more.1 ∙ ap (λ l. l ++ c.read_on.ensures.more.0) c.reads.invariant.more.1 ∙ append_assoc c.args.ahead.now.bytes c.reads.invariant.more.0 c.read_on.ensures.more.0,
      );
      part = rw (same, front) part;
      kept = Keeps-trans _ _ _ c.reads.invariant.kept c.read_on.ensures.kept;
    }
