use Rattle.std.proofs.Common.{Ok, ap, refl, ◌∙◌}
use Rattle.audit_recording.specs.Session.Over.{IsOldestOver}
use Rattle.tftp_rows.specs.Telling.{JudgesAs}
use Rattle.tftp_rows.proofs.TellingLemmas.{no_turn, on_err, turns_kept, turns_more, turns_part}
use Rattle.tftp_rows.proofs.teller.Teller.tell_over.Goals as goal

pub loop-init : goal.loop-init
loop-init g c = record {
  turns = λ named out history carried s is. no_turn g.W.Write.contents (λ before. IsOldestOver before named carried s × JudgesAs c.args.session.now before) _ c.args.session.now named out history carried s is.kept;
  judging = refl;
}

pub returns-then-not-is_first_over-clause-turns : goal.returns-then-not-is_first_over-clause-turns
returns-then-not-is_first_over-clause-turns g c named out history carried s is = c.loop.invariant.turns named out history carried s is

pub returns-then-not-branch-clause-turns : goal.returns-then-not-branch-clause-turns
returns-then-not-branch-clause-turns g c named out history carried s is =
    let turns = c.loop.invariant.turns named out history carried s is in
    turns_kept g.W.Write.contents (λ before. IsOldestOver before named carried s × JudgesAs c.args.session.now before) _ c.loop.self c.tell_oldest.new.self c.loop.session c.tell_oldest.new.session named out history carried s turns
    (c.in_ok-tell_oldest.ensures.nothing (ap Ok c.if-not-branch.true))
    (c.in_ok-tell_oldest.ensures.same_session named turns.left history carried s turns.handed_out (ap Ok c.if-not-branch.true))

pub loop-preserved : goal.loop-preserved
loop-preserved g c = record {
  turns = λ named out history carried s is.
      let turns = c.loop.invariant.turns named out history carried s is in
      let over = rw c.if-not-is_first_over.false at (c.is_first_over.ensures named turns.left history carried s (record { noticed = is.noticed; kept = turns.handed_out })) in
      turns_more g.W.Write.contents (λ before. IsOldestOver before named carried s × JudgesAs c.args.session.now before) _ c.loop.self c.tell_oldest.new.self c.loop.session c.tell_oldest.new.session named out history carried s turns
      (over, c.loop.invariant.judging) (c.in_ok-tell_oldest.ensures.told named turns.left history carried s turns.handed_out (ap Ok c.if-not-branch.false));
  judging = c.in_ok-tell_oldest.ensures.judging ∙ c.loop.invariant.judging;
}

pub returns-in_err-tell_oldest-clause-part : goal.returns-in_err-tell_oldest-clause-part
returns-in_err-tell_oldest-clause-part g c named out history carried s is =
    let turns = c.loop.invariant.turns named out history carried s is in
    on_err c.from_residual.result
    (turns_part g.W.Write.contents (λ before. IsOldestOver before named carried s × JudgesAs c.args.session.now before) _ c.loop.self c.tell_oldest.new.self c.loop.session c.args.session.now.audit.judge.judging named out history carried s turns
    c.loop.invariant.judging
    (c.in_err-tell_oldest.ensures.part named turns.left history carried s turns.handed_out))
