use Rattle.std.proofs.Common.{refl, sym, ap, ◌∙◌, ◌++◌}
use Rattle.audit_recording.proofs.ReasonsLemmas.Twice.{goes_on, if_put, stays_broken}
use Rattle.audit_recording.proofs.blame.twice.Twice.note.Goals as goal

pub returns-then-self : goal.returns-then-self
returns-then-self c = λ older is. stays_broken _ _ older c.if-self.true is

pub returns : goal.returns
returns c = λ older is.
    if_put c.extend_from_slice.result c.extend_from_slice.new.self.items c.clear.new.self.items c.args.passing.now.payload.now c.extend_from_slice.ensures.items
    (λ put. goes_on c.args.self.now _ _ older c.if-self.false (sym c.is_last.ensures ∙ c.if-is_last.false) refl refl refl
    (put ∙ ap (λ kept. kept ++ c.args.passing.now.payload.now) c.clear.ensures.items) is)
