use Rattle.std.proofs.Common.{Ok, Err, refl}
use Rattle.std.proofs.lemmas.Result.{err_from_is_err_and}
use Rattle.tftp_judge.specs.declared.extraction.OutFault.TheVariants as fault
use Rattle.tftp_judge.proofs.Extracting.{exact_file, wanted_file}
use Rattle.tftp_judge.proofs.extraction.extract.Goals as goal

pub returns-in_err-write-clause-extracts : goal.returns-in_err-write-clause-extracts
returns-in_err-write-clause-extracts g c =
    let p = err_from_is_err_and c.from_residual-in_err-write.result c.from_residual-in_err-write.ensures.1 in
    let said = c.in_ok-meaning.ensures in
    let (read, consumed, is) = said.judged in
    rw (p.1, p.2) (read, Ok c.in_ok-meaning.meaning, consumed, is, said.ended, said.read, said.tally, rw (c.as_slice.ensures.value, c.into_file-file.ensures) at c.in_err-write.ensures.writes)

pub returns-in_err-write-clause-whole : goal.returns-in_err-write-clause-whole
returns-in_err-write-clause-whole g c text all clean =
    let p = err_from_is_err_and c.from_residual-in_err-write.result c.from_residual-in_err-write.ensures.1 in
    rw (p.1, p.2) (Ok c.in_ok-meaning.meaning, c.in_ok-meaning.ensures.whole text all clean, rw (c.as_slice.ensures.value, c.into_file-file.ensures) at c.in_err-write.ensures.writes)

-- ---- of a text that is accepted

pub returns-in_err-meaning-clause-exact : goal.returns-in_err-meaning-clause-exact
returns-in_err-meaning-clause-exact g c text m all clean is =
    let p = err_from_is_err_and c.from_residual.result c.from_residual.ensures.1 in
    wanted_file g.W.Write.contents c.args.writer.now c.args.writer.now m c.in_err-meaning.field-0.0 c.from_residual.result (rw p.2 at p.1) refl
    (c.in_err-meaning.ensures.exact text (Ok m) all clean tt is)

pub returns-in_err-write-clause-exact : goal.returns-in_err-write-clause-exact
returns-in_err-write-clause-exact g c text m all clean is =
    let p = err_from_is_err_and c.from_residual-in_err-write.result c.from_residual-in_err-write.ensures.1 in
    rw (p.1, p.2)
    (exact_file g.W.Write.contents c.args.writer.now c.write.new.self m c.in_ok-meaning.meaning (Err fault.Write) (rw (c.as_slice.ensures.value, c.into_file-file.ensures) at c.in_err-write.ensures.writes)
    (c.in_ok-meaning.ensures.exact text (Ok m) all clean tt is))

pub returns-clause-exact : goal.returns-clause-exact
returns-clause-exact g c text m all clean is =
    exact_file g.W.Write.contents c.args.writer.now c.write.new.self m c.in_ok-meaning.meaning (Ok tt) (rw (c.as_slice.ensures.value, c.into_file-file.ensures) at c.in_ok-write.ensures.writes)
    (c.in_ok-meaning.ensures.exact text (Ok m) all clean tt is)
