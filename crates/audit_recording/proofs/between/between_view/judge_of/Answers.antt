use Rattle.std.proofs.Common.{◌≤◌, All, List, length, sym, subst, ◌∙◌, arith}
use Rattle.std.proofs.lemmas.List.Elements.{All-drop}
use Rattle.std.proofs.lemmas.List.{nil_from_length}
use Rattle.judge_tap.specs.{TapDatagram as Owned}
use Rattle.audit_recording.proofs.BetweenLemmas.Holding.{IsGivenSoFar, given_all, given_none, given_one}
use Rattle.audit_recording.proofs.between.between_view.judge_of.Goals as goal

pub loop-next-init : goal.loop-next-init
loop-next-init g c = record {
  given = λ given held. given_none c.new-judge.result given c.args.held.items held c.new-judge.ensures.passed;
  counted = let none = c.new-judge.ensures.none in omega arith;
  short = c.requires.short;
  sides = c.new-judge.ensures.sides;
}

pub loop-next-preserved : goal.loop-next-preserved
loop-next-preserved g c =
    let all = c.loop-next.invariant in record {
      given = λ given held. given_one c.loop-next.judge c.take.new.self given c.in-Some.next c.pop_front.new.self.items c.take.ensures.passed
          (subst (λ (l : List Owned). IsGivenSoFar c.loop-next.judge given l) c.in-Some.ensures.items (all.given given held));
      counted = let counts = c.take.ensures.counts in let popped = c.in-Some.ensures.cases in let before = all.counted in omega arith;
      short = subst (λ (l : List Owned). All (λ (d : Owned). length d.payload ≤ 65527) l) (sym c.in-Some.ensures.rest) (All-drop (λ (d : Owned). length d.payload ≤ 65527) 1 c.loop-next.held.items all.short);
      sides = c.take.ensures.sides ∙ all.sides;
    }

pub returns-clause-passed : goal.returns-clause-passed
returns-clause-passed g c given held =
    given_all c.loop-next.judge given
    (subst (λ (l : List Owned). IsGivenSoFar c.loop-next.judge given l) (let own = c.loop-next.held.ok.0 in let none = c.in_default.ensures.cases.0 in nil_from_length c.loop-next.held.items (omega arith)) (c.loop-next.invariant.given given held))
