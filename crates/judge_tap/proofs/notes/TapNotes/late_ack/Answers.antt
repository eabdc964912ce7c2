use Rattle.std.proofs.Common.{subst, rules, sym, ◌∙◌}
use Rattle.std.proofs.lemmas.Bool.{true≢false}
use Rattle.tftp_packet.specs.{End}
use Rattle.law_tap.specs.{before_error, tap_tests}
use Rattle.judge_tap.specs.{AreMarks}
use Rattle.judge_tap.proofs.Lateness.{ahead_found, none_found}
use Rattle.judge_tap.proofs.notes.TapNotes.late_ack.Goals as goal
use Rattle.judge_tap.proofs.notes.TapNotes.late_ack.Goals.{else-block-eq0-via-then-block-eq0+else-is_late_zero, else-block-eq0-via-else-block-eq0}

pub returns-then-block-before : goal.returns-then-block-before
returns-then-block-before c = λ s passed are.
    let marks = subst (λ (e : End). AreMarks c.usable-before.result (before_error (tap_tests s) e passed)) c.receiver_of_file.ensures (c.usable-before.ensures s passed are) in
    ahead_found s c.args.side passed c.usable-before.result marks c.args.block (search rules) (search rules)

pub returns : goal.returns
returns c = λ s passed are.
    let marks = subst (λ (e : End). AreMarks c.usable-before.result (before_error (tap_tests s) e passed)) c.receiver_of_file.ensures (c.usable-before.ensures s passed are) in
    none_found s c.args.side passed c.usable-before.result marks c.args.block (search rules) (λ zero late. elim c.else-block-eq0.branch [
      | else-block-eq0-via-then-block-eq0+else-is_late_zero w ↦ true≢false (sym ((w.is_late_zero.ensures s passed are).1 late) ∙ w.if-is_late_zero.false)
      | else-block-eq0-via-else-block-eq0 w ↦ absurd (search rules)
    ])
