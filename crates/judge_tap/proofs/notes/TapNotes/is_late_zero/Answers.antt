use Rattle.std.proofs.Common.{◌≡◌, sym, subst, ap, ◌∙◌}
use Rattle.judge_tap.specs.{Marks, AreMarks, Notes}
use Rattle.judge_tap.proofs.StopsNoted.{late_zero_get, late_zero_put}
use Rattle.judge_tap.proofs.notes.TapNotes.is_late_zero.Goals as goal

pub returns-in-Get : goal.returns-in-Get
returns-in-Get c = λ s passed are. late_zero_get s passed c.usable.result c.args.side c.in-Get.is (c.usable.ensures s passed are)

pub returns-then-marks : goal.returns-then-marks
returns-then-marks c = λ s passed are.
    let is : c.marks.result ≡ c.args.self.now.seen.marks = c.marks.ensures ∙ ap (λ (n : Notes). n.seen.marks) c.self.view_is in
    late_zero_put s passed c.usable-then-marks.result c.args.side c.in-Put.is c.marks.result (subst (λ (m : Marks). AreMarks m passed) (sym is) are.seen.marks) c.if-marks.true (c.usable-then-marks.ensures s passed are)
