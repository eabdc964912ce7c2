use Rattle.std.proofs.Common.{sym, ◌∙◌}
use Rattle.tftp_commands.proofs.Told.{runs_failed, runs_memory, runs_told}
use Rattle.tftp_commands.proofs.losses.check.check_with_losses.Goals as goal

pub returns-then-failed : goal.returns-then-failed
returns-then-failed g c =
    runs_failed g.W.Write.contents c.args.writer.now c.say_verdict.new.writer c.say_verdict.result g.R.Read.remaining c.args.reader.now c.read_to_end-read.new.self
    c.new-held.result.items c.read_to_end-read.new.buf.items c.as_slice-text.result.now c.new-held.ensures.items c.as_slice-text.ensures.value c.read_to_end-read.ensures.none_lost
    (sym c.failed.ensures ∙ c.if-failed.true) (rw c.last_line-line.ensures at c.say_verdict.ensures)

pub returns-then-is_err : goal.returns-then-is_err
returns-then-is_err g c =
    runs_memory g.W.Write.contents c.args.writer.now c.say.new.writer c.say.result g.R.Read.remaining c.args.reader.now c.read_to_end-read.new.self
    c.new-held.result.items c.read_to_end-read.new.buf.items c.read_to_end-read.ensures.none_lost (sym c.failed.ensures ∙ c.if-failed.false) c.say.ensures

pub returns : goal.returns
returns g c =
    runs_told g.W.Write.contents c.args.writer.now c.say_text.new.writer c.say_text.result g.R.Read.remaining c.args.reader.now c.read_to_end-read.new.self c.read_to_end-read.result
    c.new-held.result.items c.read_to_end-read.new.buf.items c.as_slice-text.result.now c.new-held.ensures.items c.as_slice-text.ensures.value (sym c.is_err.ensures.value ∙ c.if-is_err.false)
    c.read_to_end-read.ensures.none_lost c.read_to_end-read.ensures.end (sym c.failed.ensures ∙ c.if-failed.false) c.say_text.ensures
