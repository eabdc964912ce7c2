use Rattle.std.proofs.Common.{Ok, refl}
use Rattle.std.proofs.lemmas.Result.{err_from_is_err_and}
use Rattle.tftp_normal.proofs.Texts.{judged_text}
use Rattle.tftp_normal.proofs.Normalising.{exact_normal, not_true, wanted_normal, writable_of, written_normal}
use Rattle.tftp_normal.proofs.normal.normalise.Goals as goal

pub returns-clause-accepted : goal.returns-clause-accepted
returns-clause-accepted g c = λ text tells.
    let said = c.in_ok-meaning.ensures.whole text tells (not_true _ c.in_ok-meaning.ensures.tally) in
    written_normal c.args.rollover g.W.Write.contents c.args.writer.now c.normal_capture.new.writer c.in_ok-meaning.meaning text c.normal_capture.result said (c.normal_capture.ensures.normalises (writable_of c.args.rollover text c.in_ok-meaning.meaning said))

pub returns-in_err-meaning-clause-exact : goal.returns-in_err-meaning-clause-exact
returns-in_err-meaning-clause-exact g c = λ text m tells clean accepted.
    let p = err_from_is_err_and c.from_residual.result c.from_residual.ensures.1 in
    wanted_normal c.args.rollover g.W.Write.contents c.args.writer.now c.args.writer.now m c.in_err-meaning.field-0.0 c.from_residual.result (rw p.2 at p.1) refl
    (c.in_err-meaning.ensures.exact text (Ok m) tells clean tt (judged_text c.args.rollover text m accepted))

pub returns-clause-exact : goal.returns-clause-exact
returns-clause-exact g c = λ text m tells clean accepted.
    exact_normal c.args.rollover g.W.Write.contents c.args.writer.now c.normal_capture.new.writer m c.in_ok-meaning.meaning c.normal_capture.result
    (c.normal_capture.ensures.normalises (writable_of c.args.rollover text c.in_ok-meaning.meaning (c.in_ok-meaning.ensures.whole text tells clean)))
    (c.in_ok-meaning.ensures.exact text (Ok m) tells clean tt (judged_text c.args.rollover text m accepted))

pub returns-clause-normalises : goal.returns-clause-normalises
returns-clause-normalises g c =
    let said = c.in_ok-meaning.ensures in
    let (read, consumed, is) = said.judged in
    (read, Ok c.in_ok-meaning.meaning, consumed, is, said.ended, said.read, said.tally, c.normal_capture.ensures.normalises (writable_of c.args.rollover read c.in_ok-meaning.meaning is))

pub returns-clause-whole : goal.returns-clause-whole
returns-clause-whole g c = λ text all clean.
    let is = c.in_ok-meaning.ensures.whole text all clean in
    (Ok c.in_ok-meaning.meaning, is, c.normal_capture.ensures.normalises (writable_of c.args.rollover text c.in_ok-meaning.meaning is))
