use Rattle.std.proofs.Common.{◌+◌, ◌∷◌, Err, sym, subst, ap}
use Rattle.judge_tap.specs.{FindsWithLosses, HasKeptWithLosses, IsLossyJudge, LossyJudge, RefusesWithLosses, passing_of}
use Rattle.judge_tap.proofs.LossyFound.{kept_breaks_none, not_certain, refused_found}
use Rattle.judge_tap.proofs.lossy_judge.LossyJudge.feed.Goals as goal
use Rattle.judge_tap.proofs.lossy_judge.LossyJudge.feed.Goals.{in-Broken, in-Memory}

pub returns-in-Err-clause-refuses : goal.returns-in-Err-clause-refuses
returns-in-Err-clause-refuses c = λ s earlier stands.
    let d = passing_of c.args.datagram.now in
    let was = subst (λ (j : LossyJudge). IsLossyJudge j s earlier) (sym c.self.view_is) stands in
    let found = c.in-Err.ensures s earlier was.apart was.kept in
    elim c.match-stop.branch [
      | in-Broken w ↦ refused_found s earlier d (HasKeptWithLosses c.pass.new.self s (d ∷ earlier)) w.in-Broken.rule (c.self.inside.fed + 1) c.match-stop.refusal was.apart (ap (λ n. n + 1) was.fed)
          (subst (λ stop. FindsWithLosses s earlier d (HasKeptWithLosses c.pass.new.self s (d ∷ earlier)) (Err stop)) w.in-Broken.is found) w.refusal-is
      | in-Memory w ↦ subst (RefusesWithLosses s earlier d) (sym w.refusal-is) (was.fed, subst (λ stop. FindsWithLosses s earlier d (HasKeptWithLosses c.pass.new.self s (d ∷ earlier)) (Err stop)) w.in-Memory.is found)
    ]

pub returns-clause-not_certain : goal.returns-clause-not_certain
returns-clause-not_certain c = λ s earlier stands begun.
    let d = passing_of c.args.datagram.now in
    let was = subst (λ (j : LossyJudge). IsLossyJudge j s earlier) (sym c.self.view_is) stands in
    let kept : HasKeptWithLosses c.pass.new.self s (d ∷ earlier) = c.in_default-pass.ensures s earlier was.apart was.kept in
    not_certain s earlier d was.apart (kept_breaks_none s (d ∷ earlier) c.pass.new.self.late c.pass.new.self.notes kept.kept begun) begun
