use Rattle.std.proofs.Common.{sym, ◌∙◌}
use Rattle.audit_recording.proofs.ReasonsLemmas.Unplaced.{on_ok, passed}
use Rattle.audit_recording.proofs.session.unplaced.Unplaced.note.Goals as goal

pub returns : goal.returns
returns c = λ history stands.
    on_ok c.note_at-2.result
    (λ second. passed c.args.self.now c.note_at.new.latest c.note_at-2.new.latest c.args.passing.now.source c.args.passing.now.target c.args.passing.now.payload.now
    (record { frame = c.args.passing.now.frame; time = c.args.time }) history (sym c.begins_so.ensures ∙ c.if-not-begins_so.false) c.in_ok-note_at.ensures second stands)
    c.note_at-2.ensures
