use Rattle.std.proofs.Common.{Option, ℕ, ap, subst, sym, ◌∙◌}
use Rattle.audit_recording.specs.Losses.Kept.{AreLosses}
use Rattle.audit_recording.specs.Session.Hidden.{AreBehindOf}
use Rattle.audit_recording.specs.Session.Discards.{AreDiscardsAfter}
use Rattle.audit_recording.specs.Session.Noted.{AreNotesOf, going_back, told_in, with_time}
use Rattle.audit_recording.proofs.LossesLemmas.Changing.{on_ok}
use Rattle.audit_recording.proofs.session.notes.Notes.pass.Goals as goal

pub returns-in-Some-clause-stands : goal.returns-in-Some-clause-stands
returns-in-Some-clause-stands c s are =
    let p = c.args.passing.now in
    on_ok c.pass_at.result
    (λ kinds.
    subst (λ (o : Option ℕ). AreNotesOf c.pass_at.new.self (record s { times = with_time o s.times; backwards = going_back p.frame o s.times s.backwards }))
    (sym c.in-Some.is)
    (record {
      losses = subst (λ l. AreLosses l s.events) (sym c.pass_at.ensures.losses) are.losses;
      frames = are.frames;
      discards = subst (λ d. AreDiscardsAfter d s.gone) (sym c.pass_at.ensures.discards) are.discards;
      clock = c.pass_at.ensures.clock s.times are.clock;
      kinds = kinds;
      behind = subst (λ b. AreBehindOf b s.hidden) (sym c.pass_at.ensures.behind) are.behind;
      begun = ap (λ b. b.pairs.items) c.pass_at.ensures.begun ∙ are.begun;
      asked = ap (λ a. a.items) c.pass_at.ensures.asked ∙ are.asked;
    }))
    (c.pass_at.ensures.kinds s.times (told_in s) are.clock are.kinds)
