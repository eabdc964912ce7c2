use Rattle.std.proofs.Common.{◌∙◌, arith, sym}
use Rattle.audit_recording.specs.Blame.Frames.{is_seen}
use Rattle.audit_recording.specs.Blame.Kept.{placed_by}
use Rattle.audit_recording.proofs.BlameLemmas.Holding.{rest_past, rest_other}
use Rattle.audit_recording.proofs.blame.facts.ViewFacts.find.Goals.{then-is_seen+else-left-le1, else-is_seen}
use Rattle.audit_recording.proofs.blame.facts.ViewFacts.find.Goals as goal

pub loop-one-preserved : goal.loop-one-preserved
loop-one-preserved c = elim c.if-is_seen.branch [
  | then-is_seen+else-left-le1 w ↦ record {
    above = c.loop-one.invariant.above;
    from_1 = omega (arith, w.if-left-le1.false, w.left-is);
    rest = λ whole ends. rw w.left-is
        (rest_past (λ q. is_seen c.args.point c.args.ends.now.number whole (placed_by q)) c.deref-one-items.result.now c.loop-one.one-index _ _ c.loop-one-test.true c.loop-one.left
        (sym (c.is_seen.ensures whole ends) ∙ w.if-is_seen.true) w.if-left-le1.false (c.loop-one.invariant.rest whole ends));
  }
  | else-is_seen w ↦ record {
    above = c.loop-one.invariant.above;
    from_1 = omega (arith, w.left-is, c.loop-one.invariant.from_1);
    rest = λ whole ends. rw w.left-is
        (rest_other (λ q. is_seen c.args.point c.args.ends.now.number whole (placed_by q)) c.deref-one-items.result.now c.loop-one.one-index _ _ c.loop-one-test.true c.loop-one.left
        (sym (c.is_seen.ensures whole ends) ∙ w.if-is_seen.false) (c.loop-one.invariant.rest whole ends));
  }
]
