use Rattle.std.proofs.Common.{Ok, Err, ap, subst}
use Rattle.tftp_capture.specs.{BodyEnds}
use Rattle.tftp_capture.proofs.Histories.{stop_answers, datagram_answers, capture_answers, end_answers, content_answers}
use Rattle.tftp_capture.proofs.reader.read_on.Goals as goal

pub returns-then-take_like-clause-answers : goal.returns-then-take_like-clause-answers
returns-then-take_like-clause-answers g c = λ header text datagrams goes.
    datagram_answers header c.args.lines.now c.take_like.new.lines c.args.count text datagrams _ _ goes (c.take_like.ensures.reaches c.if-take_like.true _) c.take_like.new.datagram (c.take_like.ensures.says c.if-take_like.true)

pub returns-in-Err-clause-answers : goal.returns-in-Err-clause-answers
returns-in-Err-clause-answers g c = λ header text datagrams goes.
    let same = c.take_like.ensures.others c.if-take_like.false in
    rw (← same, c.at.ensures, c.count-due.ensures.value) (stop_answers header c.take_like.new.lines c.next_said_like.new.self c.args.count text datagrams _ _ (rw (← same) at goes) c.in-Err.error c.in-Err.ensures.reaches)

pub returns-in-Ok-true-clause-answers : goal.returns-in-Ok-true-clause-answers
returns-in-Ok-true-clause-answers g c = λ header text datagrams goes.
    let same = c.take_like.ensures.others c.if-take_like.false in
    rw (← same) (datagram_answers header c.take_like.new.lines c.next_said_like.new.self c.args.count text datagrams _ _ (rw (← same) at goes) c.in-Ok-true.ensures.reaches c.next_said_like.new.datagram (c.in-Ok-true.ensures.says (ap Ok c.in-Ok-true.field-0-test)))

pub returns-in-Ok-true-body_line-clause-answers : goal.returns-in-Ok-true-body_line-clause-answers
returns-in-Ok-true-body_line-clause-answers g c = λ header text datagrams goes.
    let same = c.take_like.ensures.others c.if-take_like.false in
    let says = rw (c.in-Ok-true-body_line.field-0-test, c.line.ensures.value, c.version.ensures) at c.in-Ok-true-body_line.ensures in
    rw (← same) (datagram_answers header c.take_like.new.lines c.next_said_like.new.self c.args.count text datagrams _ _ (rw (← same) at goes) c.in-Ok-false.ensures.reaches c.body_line.new.datagram says)

pub returns-in-Ok-clause-answers : goal.returns-in-Ok-clause-answers
returns-in-Ok-clause-answers g c = λ header text datagrams goes.
    let same = c.take_like.ensures.others c.if-take_like.false in
    let is = rw (c.in-Ok-false-body_line.field-0-test, c.line.ensures.value) at c.in-Ok-false-body_line.ensures in
    rw (← same)
    (capture_answers header c.take_like.new.lines c.next_said_like.new.self c.args.count text datagrams _ _ (rw (← same) at goes) c.in-Ok-false.ensures.reaches c.finish.new.self _ _ is c.in-Ok.ensures.ends.1 c.in-Ok.ensures.ends.2)

pub returns-in-Err-finish-clause-answers : goal.returns-in-Err-finish-clause-answers
returns-in-Err-finish-clause-answers g c = λ header text datagrams goes.
    let same = c.take_like.ensures.others c.if-take_like.false in
    let is = rw (c.in-Ok-false-body_line.field-0-test, c.line.ensures.value) at c.in-Ok-false-body_line.ensures in
    rw (← same, c.at-in-Err-finish.ensures, c.count-line.ensures.value)
    (end_answers header c.take_like.new.lines c.next_said_like.new.self c.args.count text datagrams _ _ (rw (← same) at goes) c.in-Ok-false.ensures.reaches c.finish.new.self _ _ c.in-Err-finish.error is c.in-Err-finish.ensures.ends.1 c.in-Err-finish.ensures.ends.2)

pub returns-in-Err-body_line-clause-answers : goal.returns-in-Err-body_line-clause-answers
returns-in-Err-body_line-clause-answers g c = λ header text datagrams goes.
    let same = c.take_like.ensures.others c.if-take_like.false in
    let said : BodyEnds c.version.result (Err c.in-Err-body_line.error) c.line.result.now c.args.count = c.in-Err-body_line.ensures in
    let ends = subst (λ v. BodyEnds v (Err c.in-Err-body_line.error) c.next_said_like.new.self.line c.args.count) c.version.ensures (rw c.line.ensures.value at said) in
    rw (← same, c.at-in-Err-body_line.ensures, c.count-line.ensures.value)
    (content_answers header c.take_like.new.lines c.next_said_like.new.self c.args.count text datagrams _ _ (rw (← same) at goes) c.in-Ok-false.ensures.reaches c.in-Err-body_line.error ends)
