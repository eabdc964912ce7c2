use Rattle.std.proofs.Common.{rules, Ok, ap, refl, ◌∙◌}
use Rattle.tftp_rows.specs.Telling.{JudgesAs}
use Rattle.tftp_rows.proofs.TellingLemmas.{no_turn, on_err, turns_end, turns_kept, turns_more, turns_part}
use Rattle.tftp_rows.proofs.teller.Teller.tell_all.Goals as goal

pub loop-turn-init : goal.loop-turn-init
loop-turn-init g c = record {
  turns = λ named out history carried s is. no_turn g.W.Write.contents (JudgesAs c.args.session.now) _ c.args.session.now named out history carried s is;
  judging = refl;
  notes = refl;
  count = search rules;
}

pub returns-then-not-branch-clause-turns : goal.returns-then-not-branch-clause-turns
returns-then-not-branch-clause-turns g c named out history carried s is =
    let turns = c.loop-turn.invariant.turns named out history carried s is in (
      turns_kept g.W.Write.contents (JudgesAs c.args.session.now) _ c.loop-turn.self c.tell_oldest.new.self c.loop-turn.session c.tell_oldest.new.session named out history carried s turns
          (c.in_ok-tell_oldest.ensures.nothing (ap Ok c.if-not-branch.true))
          (c.in_ok-tell_oldest.ensures.same_session named turns.left history carried s turns.handed_out (ap Ok c.if-not-branch.true)),
      c.in_ok-tell_oldest.ensures.all named turns.left history carried s turns.handed_out (ap Ok c.if-not-branch.true),
    )

pub loop-turn-preserved : goal.loop-turn-preserved
loop-turn-preserved g c = record {
  turns = λ named out history carried s is.
      let turns = c.loop-turn.invariant.turns named out history carried s is in
      let told = c.in_ok-tell_oldest.ensures.told named turns.left history carried s turns.handed_out (ap Ok c.if-not-branch.false) in
      turns_more g.W.Write.contents (JudgesAs c.args.session.now) _ c.loop-turn.self c.tell_oldest.new.self c.loop-turn.session c.tell_oldest.new.session named out history carried s turns c.loop-turn.invariant.judging told;
  judging = c.in_ok-tell_oldest.ensures.judging ∙ c.loop-turn.invariant.judging;
  notes = c.in_ok-tell_oldest.ensures.notes ∙ c.loop-turn.invariant.notes;
  count = search rules;
}

pub returns-in_err-tell_oldest-clause-part : goal.returns-in_err-tell_oldest-clause-part
returns-in_err-tell_oldest-clause-part g c named out history carried s is =
    let turns = c.loop-turn.invariant.turns named out history carried s is in
    on_err c.from_residual.result
    (turns_part g.W.Write.contents (JudgesAs c.args.session.now) _ c.loop-turn.self c.tell_oldest.new.self c.loop-turn.session c.args.session.now.audit.judge.judging named out history carried s turns c.loop-turn.invariant.judging
    (c.in_err-tell_oldest.ensures.part named turns.left history carried s turns.handed_out))

pub returns-clause-part : goal.returns-clause-part
returns-clause-part g c named out history carried s is =
    turns_end g.W.Write.contents (JudgesAs c.args.session.now) _ c.loop-turn.self c.loop-turn.session c.args.session.now.audit.judge.judging named out history carried s (c.loop-turn.invariant.turns named out history carried s is)
