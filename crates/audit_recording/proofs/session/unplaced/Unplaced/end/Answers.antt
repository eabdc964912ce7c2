use Rattle.std.proofs.Common.{sym, ◌∙◌}
use Rattle.audit_recording.proofs.ReasonsLemmas.Unplaced.{ended, not_its_end}
use Rattle.audit_recording.proofs.session.unplaced.Unplaced.end.Goals as goal

pub returns-then-is_newest : goal.returns-then-is_newest
returns-then-is_newest c = λ history stands.
    ended c.args.self.now c.remove.new.self c.args.client c.args.number history (sym c.is_newest.ensures ∙ c.if-is_newest.true) c.remove.ensures.updates.0 stands

pub returns-else-is_newest : goal.returns-else-is_newest
returns-else-is_newest c = λ history stands.
    not_its_end c.args.self.now c.args.client c.args.number history (sym c.is_newest.ensures ∙ c.if-is_newest.false) stands
