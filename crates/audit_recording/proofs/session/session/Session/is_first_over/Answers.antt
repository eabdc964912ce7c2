use Rattle.std.proofs.Common.{◌≡◌, MatchBool, true, false, is_some, sym, ap, subst, ◌∙◌}
use Rattle.std.proofs.lemmas.Bool.{false≢true}
use Rattle.audit_recording.specs.Session.Over.{IsOldestOver}
use Rattle.audit_recording.proofs.LossesLemmas.Waiting.{nothing_at}
use Rattle.audit_recording.proofs.SessionLemmas.Over.{not_over, over_told}
use Rattle.audit_recording.proofs.session.session.Session.is_first_over.Goals as goal

pub returns-in-None : goal.returns-in-None
returns-in-None c = λ named out history carried s is over.
    false≢true (sym (ap is_some (nothing_at c.args.self.now.trails over.0 (λ some. let no : false ≡ true = c.in-None.ensures.variant.1 some in absurd (cc)))) ∙ ap is_some over.2)

pub returns-then-is_past : goal.returns-then-is_past
returns-then-is_past c = λ named out history carried s is.
    over_told c.args.self.now named carried s _ c.in-Some.trail.now c.is_over.result c.in-Some.ensures.value c.in-Some.ensures.least
    (c.if-is_past.ensures s is.kept.notes) (c.is_over.ensures named out history _ is.kept.audit)

pub returns-else-is_past : goal.returns-else-is_past
returns-else-is_past c = λ named out history carried s is.
    let session = c.args.self.now in
    subst (λ b. MatchBool b (IsOldestOver session named carried s) (IsOldestOver session named carried s → ⊥)) (sym c.if-is_past.false)
    (not_over session named carried s _ c.in-Some.trail.now c.in-Some.ensures.value c.in-Some.ensures.least (c.if-is_past.ensures s is.kept.notes))
