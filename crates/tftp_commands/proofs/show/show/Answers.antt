use Rattle.std.proofs.Common.{◌+◌, refl, sym, subst, ◌∙◌, true≢false, arith}
use Rattle.net_streams.proofs.StreamsLemmas.Gathering.{added, not_added}
use Rattle.tftp_commands.proofs.Showing.{KeepsOn, cut_here, one_more, other_side, shown_fault, shown_nothing, shown_runs, shown_whole}
use Rattle.tftp_capture.specs.{datagram_of}
use Rattle.tftp_commands.specs.{IsDatagramLine}
use Rattle.tftp_commands.proofs.show.show.Goals as goal

pub returns-in-Err : goal.returns-in-Err
returns-in-Err g c =
    shown_runs c.args.rollover g.R.Read.remaining g.W.Write.contents c.args.reader.now c.begin.new.reader c.args.writer.now c.finish.new.writer c.finish.result
    (shown_nothing c.args.rollover _ _ _ _ _ _ _ c.in-Err.fault c.in-Err.ensures.err c.in-Err.ensures.end c.in-Err.ensures.read c.in-Err.ensures.tally (rw c.requires.fresh.0 at c.finish.ensures.0)) c.finish.ensures.1

pub returns-in-Ok-false : goal.returns-in-Ok-false
returns-in-Ok-false g c =
    let inv = c.loop-writer.invariant in
    let answered = rw c.in-Ok-false.field-0-test at c.in-Ok-false.ensures in
    shown_runs c.args.rollover g.R.Read.remaining g.W.Write.contents c.args.reader.now c.next_into.new.reader c.args.writer.now c.finish-in-Ok-false.new.writer c.finish-in-Ok-false.result
    (shown_whole c.args.rollover c.loop-writer.numbers _ _ _ _ _ _ c.loop-writer.capture c.next_into.new.self c.loop-writer.writer.waits c.loop-writer.number _ _ _ inv.shown inv.going answered.continues answered.standing
    (answered.end inv.going refl) (other_side (λ h. h) answered.tally ∙ inv.reading) c.finish-in-Ok-false.ensures.0) c.finish-in-Ok-false.ensures.1

pub returns-in-Err-next_into : goal.returns-in-Err-next_into
returns-in-Err-next_into g c =
    let inv = c.loop-writer.invariant in
    let answered = c.in-Err-next_into.ensures in
    shown_runs c.args.rollover g.R.Read.remaining g.W.Write.contents c.args.reader.now c.next_into.new.reader c.args.writer.now c.finish-in-Err-next_into.new.writer c.finish-in-Err-next_into.result
    (shown_fault c.args.rollover c.loop-writer.numbers _ _ _ _ _ _ c.loop-writer.capture c.next_into.new.self c.loop-writer.writer.waits c.loop-writer.number _ _ _ c.in-Err-next_into.fault inv.shown inv.going answered.continues answered.standing
    (answered.near inv.going) (answered.cut inv.going) (answered.drained inv.going) answered.read (λ other. other_side other answered.tally ∙ inv.reading) c.finish-in-Err-next_into.ensures.0) c.finish-in-Err-next_into.ensures.1

pub returns-then-is_err : goal.returns-then-is_err
returns-then-is_err g c =
    let inv = c.loop-writer.invariant in
    let answered = rw c.in-Ok-true.field-0-test at c.in-Ok-true.ensures in
    let failed = sym c.is_err.ensures.value ∙ c.if-is_err.true in
    let put = c.show_datagram.ensures.adds in
    let told = not_added g.W.Write.contents c.loop-writer.writer c.show_datagram.new.writer c.show_datagram.result _ failed put.2 in
    shown_runs c.args.rollover g.R.Read.remaining g.W.Write.contents c.args.reader.now c.next_into.new.reader c.args.writer.now c.show_datagram.new.writer _
    (cut_here c.args.rollover c.loop-writer.numbers _ _ _ _ _ _ c.loop-writer.capture c.next_into.new.self c.loop-writer.writer.waits c.loop-writer.number c.next_into.new.datagram put.0 _ _ inv.shown inv.going answered.continues answered.standing answered.header
    (answered.near inv.going) (other_side (λ h. h) answered.tally ∙ inv.reading) told.failed (subst (λ r. IsDatagramLine r c.loop-writer.numbers.highest (c.loop-writer.number + 1) (datagram_of c.next_into.new.datagram) put.0) inv.by put.1) (told.part inv.writing)) (λ passed. absurd (true≢false (sym told.failed ∙ passed)))

pub loop-writer-preserved : goal.loop-writer-preserved
loop-writer-preserved g c =
    let inv = c.loop-writer.invariant in
    let answered = rw c.in-Ok-true.field-0-test at c.in-Ok-true.ensures in
    let passed = sym c.is_err.ensures.value ∙ c.if-is_err.false in
    let put = c.show_datagram.ensures.adds in
    let told = added g.W.Write.contents c.loop-writer.writer c.show_datagram.new.writer c.show_datagram.result _ passed put.2 in
    record {
      going = answered.standing;
      reading = other_side (λ h. h) answered.tally ∙ inv.reading;
      writing = told.1;
      few = omega (arith, inv.few, answered.rises refl);
      by = c.pass.ensures.rollover ∙ inv.by;
      low = omega (arith, inv.low, c.pass.ensures.rises);
      shown = one_more c.args.rollover c.loop-writer.numbers c.pass.new.self _ _ _ _ _ _ c.loop-writer.capture c.next_into.new.self c.loop-writer.writer.waits c.show_datagram.new.writer.waits c.loop-writer.number c.next_into.new.datagram put.0
          inv.shown inv.going answered.continues answered.standing answered.header (subst (λ r. IsDatagramLine r c.loop-writer.numbers.highest (c.loop-writer.number + 1) (datagram_of c.next_into.new.datagram) put.0) inv.by put.1)
          (subst (λ r. KeepsOn r c.loop-writer.numbers c.pass.new.self (datagram_of c.next_into.new.datagram)) inv.by c.pass.ensures.kept) told.2;
    }
