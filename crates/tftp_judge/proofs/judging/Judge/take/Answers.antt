use Rattle.std.proofs.Common.{◌+◌, ◌∷◌, refl, sym, subst}
use Rattle.tftp_capture.specs.{datagram_of}
use Rattle.tftp_judge.specs.{FindsOf, HasKept, IsJudgeAfter, Judge}
use Rattle.tftp_judge.proofs.Taken.{one_more, taken_there}
use Rattle.tftp_judge.proofs.judging.Judge.take.Goals as goal

pub invariant_of-self-2 : goal.invariant_of-self-2
invariant_of-self-2 g c = λ none.
    let (h, earlier, after) = c.self.invariant none in
    let d = datagram_of c.args.datagram.now in
    let (now, taken) = taken_there c.args.rollover h earlier d after.lawful in (
      h,
      now ∷ earlier,
      (one_more (record { state = c.self.inside.state; fed = c.self.inside.fed; refused = c.self.inside.refused }) (record { state = c.pass.new.self; fed = c.self.inside.fed + 1; refused = c.self.inside.refused }) h earlier c.args.rollover d now after taken c.requires.short
          (subst (λ r. FindsOf h earlier now (HasKept c.pass.new.self h (now ∷ earlier)) r) c.in_default-pass.is (c.pass.ensures.finds h earlier now after.lawful after.has_kept taken)) refl none).1,
    )

pub returns-clause-accepts : goal.returns-clause-accepts
returns-clause-accepts g c = λ h earlier now after taken.
    let d = datagram_of c.args.datagram.now in
    let own = subst (λ (j : Judge). IsJudgeAfter j h earlier) (sym c.self.view_is) after in
    one_more (record { state = c.self.inside.state; fed = c.self.inside.fed; refused = c.self.inside.refused }) (record { state = c.pass.new.self; fed = c.self.inside.fed + 1; refused = c.self.inside.refused }) h earlier c.args.rollover d now own taken c.requires.short
    (subst (λ r. FindsOf h earlier now (HasKept c.pass.new.self h (now ∷ earlier)) r) c.in_default-pass.is (c.pass.ensures.finds h earlier now own.lawful own.has_kept taken)) refl own.goes_on
