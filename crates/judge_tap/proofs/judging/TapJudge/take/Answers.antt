use Rattle.std.proofs.Common.{◌+◌, ◌∷◌, ℕ, Bool, Option, sym, subst, ap}
use Rattle.judge_tap.specs.TapKept.{HasKeptAtTap}
use Rattle.judge_tap.specs.{IsCertainByRule, IsStandingBy, IsTapJudge, TapJudge, passing_as}
use Rattle.judge_tap.proofs.ByRule.{certain_first, refuses_first, wanting_first}
use Rattle.judge_tap.proofs.judging.TapJudge.take.Goals as goal
use Rattle.judge_tap.proofs.judging.TapJudge.take.Goals.{in-Broken, in-Memory}

pub returns-in-Err-clause-certain : goal.returns-in-Err-clause-certain
returns-in-Err-clause-certain g c = λ s earlier now stands taken.
    let was = subst (λ (j : TapJudge). IsTapJudge j s earlier) (sym c.self.view_is) stands in
    elim c.match-stop.branch [
      | in-Broken w ↦ certain_first s earlier (passing_as c.args.datagram now) (HasKeptAtTap c.pass.new.self s (passing_as c.args.datagram now ∷ earlier)) c.in-Err.stop (c.self.inside.fed + 1) w.in-Broken.rule w.standing_by-stands.result c.match-stop.refusal was.apart was.lawful (c.in-Err.ensures.finds s earlier now was.apart was.lawful was.kept taken) w.in-Broken.is w.refusal-is
      | in-Memory w ↦ subst (IsCertainByRule s earlier (passing_as c.args.datagram now)) (sym w.refusal-is) tt
    ]

pub returns-in-Err-clause-refuses : goal.returns-in-Err-clause-refuses
returns-in-Err-clause-refuses g c = λ s earlier now stands taken.
    let d = passing_as c.args.datagram now in
    let was = subst (λ (j : TapJudge). IsTapJudge j s earlier) (sym c.self.view_is) stands in
    let found = c.in-Err.ensures.finds s earlier now was.apart was.lawful was.kept taken in
    elim c.match-stop.branch [
      | in-Broken w ↦ refuses_first s earlier d (HasKeptAtTap c.pass.new.self s (d ∷ earlier)) c.in-Err.stop (c.self.inside.fed + 1) w.in-Broken.rule _ w.standing_by-stands.result c.match-stop.refusal was.apart was.lawful found (c.in-Err.ensures.stands s earlier now was.apart was.lawful was.kept taken) w.in-Broken.is (subst (λ (t : Option Bool). IsStandingBy w.in-Broken.rule t w.standing_by-stands.result) w.stands.ensures w.standing_by-stands.ensures) (ap (λ (n : ℕ). n + 1) was.fed) w.refusal-is
      | in-Memory w ↦ wanting_first s earlier d (HasKeptAtTap c.pass.new.self s (d ∷ earlier)) c.in-Err.stop c.self.inside.fed c.match-stop.refusal found w.in-Memory.is was.fed (c.in-Err.ensures.memory s earlier now was.apart was.lawful was.kept taken) w.refusal-is
    ]
