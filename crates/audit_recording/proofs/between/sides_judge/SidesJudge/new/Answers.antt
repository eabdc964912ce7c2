use Rattle.std.proofs.Common.{rules, [], Option, refl, sym, subst}
use Rattle.judge_tap.specs.{TapJudge}
use Rattle.audit_recording.specs.Between.Kept.{Between, PassedBy}
use Rattle.audit_recording.proofs.BetweenLemmas.Tapping.{tapped_new}
use Rattle.audit_recording.proofs.between.sides_judge.SidesJudge.new.Goals as goal
use Rattle.audit_recording.proofs.between.sides_judge.SidesJudge.new.Goals.{then-is_one, else-is_one}

pub returns-clause-passed : goal.returns-clause-passed
returns-clause-passed g c =
    let b : Between = record { sides = c.args.sides; judge = c.if-is_one.result; counted = 0 } in
    elim c.if-is_one.branch [
      | then-is_one w ↦ subst (λ (o : Option TapJudge). PassedBy o b []) (sym w.result-is) refl
      | else-is_one w ↦ subst (λ (o : Option TapJudge). PassedBy o b []) (sym w.result-is) (tapped_new w.new.result c.args.sides (w.new.ensures.after (search rules)))
    ]
