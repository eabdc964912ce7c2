use Rattle.std.proofs.Common.{◌≢◌, ◌^◌, ◌<◌, length, arith}
use Rattle.tftp_capture.proofs.Bytes.{taken_rest}
use Rattle.tftp_capture.proofs.lines.Lines.finish.Goals as goal

pub returns-then-self-eq-LONGEST_TEXT-clause-ends : goal.returns-then-self-eq-LONGEST_TEXT-clause-ends
returns-then-self-eq-LONGEST_TEXT-clause-ends g c =
    let some : length c.fill.new.self.bytes ≢ 0 = rw c.as_slice-held.ensures at c.if-held-eq0.false in
    let rest = taken_rest _ (g.R.Read.remaining c.fill.new.reader.0) c.fill.new.self.bytes (rw c.consume.ensures.value at c.fill.ensures.kept) some in
    (rest.0, rw (c.consume-2.ensures.value, c.as_slice-held.ensures, ← c.self.view_is) rest.1, (rest.2.0, rest.2.1, rest.2.2, rw (← c.self.view_is) c.if-self-eq-LONGEST_TEXT.true))

pub returns-clause-ends : goal.returns-clause-ends
returns-clause-ends g c =
    let some : length c.fill.new.self.bytes ≢ 0 = rw c.as_slice-held.ensures at c.if-held-eq0.false in
    let rest = taken_rest _ (g.R.Read.remaining c.fill.new.reader.0) c.fill.new.self.bytes (rw c.consume.ensures.value at c.fill.ensures.kept) some in
    let below : c.self.inside.taken < 2 ^ 40 = omega arith in
    (rest.0, rw (c.consume-2.ensures.value, c.as_slice-held.ensures, ← c.self.view_is) rest.1, (rest.2.0, rest.2.1, rest.2.2, rw (← c.self.view_is) below))
