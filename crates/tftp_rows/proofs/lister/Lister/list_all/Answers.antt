use Rattle.std.proofs.Common.{rules, Ok, ap, refl, ◌∙◌}
use Rattle.tftp_rows.proofs.ListingLemmas.{end_listed, kept_listed, none_listed, one_listed, part_listed}
use Rattle.tftp_rows.proofs.TellingLemmas.{on_err}
use Rattle.tftp_rows.proofs.lister.Lister.list_all.Goals as goal

pub loop-turn-init : goal.loop-turn-init
loop-turn-init g c = record {
  turns = λ named out history carried s is. none_listed g.W.Write.contents (λ before. Unit {0}) named history carried s _ c.args.session.now out is;
  notes = refl;
  count = search rules;
}

pub returns-then-not-branch-clause-turns : goal.returns-then-not-branch-clause-turns
returns-then-not-branch-clause-turns g c named out history carried s is =
    let turns = c.loop-turn.invariant.turns named out history carried s is in (
      kept_listed g.W.Write.contents (λ before. Unit {0}) named history carried s _ c.loop-turn.self c.list_oldest.new.self c.loop-turn.session c.list_oldest.new.session out turns
          (c.in_ok-list_oldest.ensures.nothing (ap Ok c.if-not-branch.true))
          (c.in_ok-list_oldest.ensures.same_session named turns.left history carried s turns.handed_out (ap Ok c.if-not-branch.true)),
      c.in_ok-list_oldest.ensures.all named turns.left history carried s turns.handed_out (ap Ok c.if-not-branch.true),
    )

pub loop-turn-preserved : goal.loop-turn-preserved
loop-turn-preserved g c = record {
  turns = λ named out history carried s is.
      let turns = c.loop-turn.invariant.turns named out history carried s is in
      one_listed g.W.Write.contents (λ before. Unit {0}) named history carried s _ c.loop-turn.self c.list_oldest.new.self c.loop-turn.session c.list_oldest.new.session out turns tt
      (c.in_ok-list_oldest.ensures.told named turns.left history carried s turns.handed_out (ap Ok c.if-not-branch.false));
  notes = c.in_ok-list_oldest.ensures.notes ∙ c.loop-turn.invariant.notes;
  count = search rules;
}

pub returns-in_err-list_oldest-clause-part : goal.returns-in_err-list_oldest-clause-part
returns-in_err-list_oldest-clause-part g c named out history carried s is =
    let turns = c.loop-turn.invariant.turns named out history carried s is in
    on_err c.from_residual.result
    (part_listed g.W.Write.contents (λ before. Unit {0}) named history carried s _ c.loop-turn.self c.list_oldest.new.self c.loop-turn.session out turns tt
    (c.in_err-list_oldest.ensures.part named turns.left history carried s turns.handed_out))

pub returns-clause-part : goal.returns-clause-part
returns-clause-part g c named out history carried s is =
    end_listed g.W.Write.contents (λ before. Unit {0}) named history carried s _ c.loop-turn.self c.loop-turn.session out (c.loop-turn.invariant.turns named out history carried s is)
