use Rattle.std.proofs.Common.{Ok, Err}
use Rattle.tftp_judge.specs.declared.extraction.OutFault.TheVariants as extracting
use Rattle.tftp_normal.specs.declared.fault.NormalFault.TheVariants as normalising
use Rattle.tftp_commands.specs.{checked, counted}
use Rattle.tftp_commands.proofs.Extracting.{extracted_runs}
use Rattle.tftp_commands.proofs.Judging.{judged_runs}
use Rattle.tftp_commands.proofs.Normalising.{normalised_runs}
use Rattle.tftp_commands.proofs.command.run_command.Goals as goal

-- ---- what there is to say of the text is said

pub returns-in-Ok : goal.returns-in-Ok
returns-in-Ok g c =
    let e = c.in-Ok.ensures in
    rw c.in-Check.is (judged_runs c.in-Check.rollover g.R.Read.remaining g.W.Write.contents checked c.args.reader.now c.judge_text.new.reader c.args.writer.now c.say_accepted.new.writer (Ok c.in-Ok.meaning) _ e.judged e.ended e.read e.tally e.whole c.say_accepted.ensures)

pub returns-in-Err : goal.returns-in-Err
returns-in-Err g c =
    let e = c.in-Err.ensures in
    rw c.in-Check.is (judged_runs c.in-Check.rollover g.R.Read.remaining g.W.Write.contents checked c.args.reader.now c.judge_text.new.reader c.args.writer.now c.say_verdict.new.writer (Err c.in-Err.verdict) _ e.judged e.ended e.read e.tally e.whole c.say_verdict.ensures)

pub returns-in-Ok-judge_text : goal.returns-in-Ok-judge_text
returns-in-Ok-judge_text g c =
    let e = c.in-Ok-judge_text.ensures in
    rw c.in-Count.is (judged_runs c.in-Count.rollover g.R.Read.remaining g.W.Write.contents counted c.args.reader.now c.judge_text-in-Count.new.reader c.args.writer.now c.say_counted.new.writer (Ok c.in-Ok-judge_text.meaning) _ e.judged e.ended e.read e.tally e.whole c.say_counted.ensures)

pub returns-in-Err-judge_text : goal.returns-in-Err-judge_text
returns-in-Err-judge_text g c =
    let e = c.in-Err-judge_text.ensures in
    rw c.in-Count.is (judged_runs c.in-Count.rollover g.R.Read.remaining g.W.Write.contents counted c.args.reader.now c.judge_text-in-Count.new.reader c.args.writer.now c.say_verdict-in-Err-judge_text.new.writer (Err c.in-Err-judge_text.verdict) _ e.judged e.ended e.read e.tally e.whole c.say_verdict-in-Err-judge_text.ensures)

-- ---- the file is written

pub returns-in-Ok-extract : goal.returns-in-Ok-extract
returns-in-Ok-extract g c =
    let e = c.in-Ok-extract.ensures in
    rw c.in-Extract.is (extracted_runs c.in-Extract.rollover g.W.Write.contents c.args.writer.now c.extract.new.writer g.R.Read.remaining c.args.reader.now c.extract.new.reader (Ok c.in-Ok-extract.field-0) c.requires.fresh e.extracts e.whole)

pub returns-in-Err-Verdict : goal.returns-in-Err-Verdict
returns-in-Err-Verdict g c =
    let e = rw c.in-Err-Verdict.field-0-is at c.in-Err-Verdict.ensures in
    rw c.in-Extract.is (rw c.status_of.ensures (extracted_runs c.in-Extract.rollover g.W.Write.contents c.args.writer.now c.extract.new.writer g.R.Read.remaining c.args.reader.now c.extract.new.reader (Err (extracting.Verdict c.in-Err-Verdict.verdict)) c.requires.fresh e.extracts e.whole))

pub returns-in-Err-Write : goal.returns-in-Err-Write
returns-in-Err-Write g c =
    let e = rw c.in-Err-Write.field-0-is at c.in-Err-Write.ensures in
    rw c.in-Extract.is (extracted_runs c.in-Extract.rollover g.W.Write.contents c.args.writer.now c.extract.new.writer g.R.Read.remaining c.args.reader.now c.extract.new.reader (Err extracting.Write) c.requires.fresh e.extracts e.whole)

-- ---- the normal text is written

pub returns-in-Ok-normalise : goal.returns-in-Ok-normalise
returns-in-Ok-normalise g c =
    let e = c.in-Ok-normalise.ensures in
    rw c.in-Normal.is (normalised_runs c.in-Normal.rollover g.W.Write.contents c.args.writer.now c.normalise.new.writer g.R.Read.remaining c.args.reader.now c.normalise.new.reader (Ok c.in-Ok-normalise.field-0) c.requires.fresh e.normalises e.whole)

pub returns-in-Err-Verdict-normalise : goal.returns-in-Err-Verdict-normalise
returns-in-Err-Verdict-normalise g c =
    let e = rw c.in-Err-Verdict-normalise.field-0-is at c.in-Err-Verdict-normalise.ensures in
    rw c.in-Normal.is (rw c.status_of-in-Err-Verdict-normalise.ensures (normalised_runs c.in-Normal.rollover g.W.Write.contents c.args.writer.now c.normalise.new.writer g.R.Read.remaining c.args.reader.now c.normalise.new.reader (Err (normalising.Verdict c.in-Err-Verdict-normalise.verdict)) c.requires.fresh e.normalises e.whole))

pub returns-in-Err-Write-normalise : goal.returns-in-Err-Write-normalise
returns-in-Err-Write-normalise g c =
    let e = rw c.in-Err-Write-normalise.field-0-is at c.in-Err-Write-normalise.ensures in
    rw c.in-Normal.is (normalised_runs c.in-Normal.rollover g.W.Write.contents c.args.writer.now c.normalise.new.writer g.R.Read.remaining c.args.reader.now c.normalise.new.reader (Err normalising.Write) c.requires.fresh e.normalises e.whole)

pub returns-in-Err-Memory : goal.returns-in-Err-Memory
returns-in-Err-Memory g c =
    let e = rw c.in-Err-Memory.field-0-is at c.in-Err-Memory.ensures in
    rw c.in-Normal.is (normalised_runs c.in-Normal.rollover g.W.Write.contents c.args.writer.now c.normalise.new.writer g.R.Read.remaining c.args.reader.now c.normalise.new.reader (Err normalising.Memory) c.requires.fresh e.normalises e.whole)
