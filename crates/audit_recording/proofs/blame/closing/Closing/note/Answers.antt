use Rattle.std.proofs.Common.{refl, sym, ◌∙◌}
use Rattle.audit_recording.specs.Blame.Frames.{framed_after, view_of}
use Rattle.audit_recording.specs.declared.rows.row.Point.TheVariants.{Client}
use Rattle.audit_recording.proofs.BlameLemmas.Closing.{passed_by, passed_there}
use Rattle.audit_recording.proofs.ReasonsLemmas.Unplaced.{on_ok}
use Rattle.audit_recording.proofs.blame.closing.Closing.note.Goals as goal

pub returns-then-not-is_of : goal.returns-then-not-is_of
returns-then-not-is_of c named d carried was passes at ends number =
    passed_by c.args.self.now c.args.transfer.now named d carried (sym (c.is_of.ensures (framed_after named carried d).placed at) ∙ c.if-not-is_of.true) was

pub returns : goal.returns
returns c named d carried was passes at ends number =
    on_ok c.note_own.result
    (passed_there c.note_own.new.self c.args.transfer.now named d carried (sym (c.is_of.ensures (framed_after named carried d).placed at) ∙ c.if-not-is_of.false))
    (c.note_own.ensures (framed_after named carried d) (view_of Client c.args.transfer.now.number named carried) was passes refl at ends number)
