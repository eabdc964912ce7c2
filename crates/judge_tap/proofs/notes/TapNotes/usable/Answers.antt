use Rattle.std.proofs.Common.{◌≡◌, sym, subst, ap, ◌∙◌}
use Rattle.law_tap.specs.{before_error, tap_tests}
use Rattle.judge_tap.specs.{Marks, AreMarks, Notes}
use Rattle.judge_tap.proofs.StopsNoted.{none_usable}
use Rattle.judge_tap.proofs.notes.TapNotes.usable.Goals as goal

pub returns-in-None : goal.returns-in-None
returns-in-None c = λ s passed are.
    let is : c.marks.result ≡ c.args.self.now.seen.marks = c.marks.ensures ∙ ap (λ (n : Notes). n.seen.marks) c.self.view_is in
    subst (λ (m : Marks). AreMarks m (before_error (tap_tests s) c.args.end passed)) (sym is) (none_usable s c.args.end passed c.args.self.now are c.in-None.ensures)
