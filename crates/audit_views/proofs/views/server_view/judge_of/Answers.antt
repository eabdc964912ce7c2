use Rattle.std.proofs.Common.{◌≤◌, All, List, length, sym, subst, ◌∙◌, arith}
use Rattle.std.proofs.lemmas.List.Elements.{All-drop}
use Rattle.std.proofs.lemmas.List.{nil_from_length}
use Rattle.audit_views.specs.declared.views.held.Held.{Held}
use Rattle.audit_views.proofs.ViewsLemmas.Holding.{IsGivenSoFar, given_all, given_none, given_one}
use Rattle.audit_views.proofs.views.server_view.judge_of.Goals as goal

pub loop-next-init : goal.loop-next-init
loop-next-init g c = record {
  given = λ name whole part ends held. given_none c.args.rollover c.new-judge.result name whole part c.args.held.items held (c.new-judge.ensures.after name whole ends);
  counted = let none = c.new-judge.ensures.none in omega arith;
  short = c.requires.short;
  transfer = c.new-judge.ensures.transfer;
}

pub loop-next-preserved : goal.loop-next-preserved
loop-next-preserved g c =
    let all = c.loop-next.invariant in record {
      given = λ name whole part ends held. given_one c.args.rollover c.loop-next.judge c.take.new.self name whole part c.in-Some.next c.pop_front.new.self.items
          (λ p before after fed. c.take.ensures.after c.args.rollover name whole p before after fed)
          (subst (λ (l : List Held). IsGivenSoFar c.args.rollover c.loop-next.judge name whole part l) c.in-Some.ensures.items (all.given name whole part ends held));
      counted = let counts = c.take.ensures.counts in let popped = c.in-Some.ensures.cases in let before = all.counted in omega arith;
      short = subst (λ (l : List Held). All (λ (h : Held). length h.payload ≤ 65527) l) (sym c.in-Some.ensures.rest) (All-drop (λ (h : Held). length h.payload ≤ 65527) 1 c.loop-next.held.items all.short);
      transfer = c.take.ensures.transfer ∙ all.transfer;
    }

pub returns-clause-after : goal.returns-clause-after
returns-clause-after g c name whole part ends held =
    given_all c.args.rollover c.loop-next.judge name whole part
    (subst (λ (l : List Held). IsGivenSoFar c.args.rollover c.loop-next.judge name whole part l) (let own = c.loop-next.held.ok.0 in let none = c.in_default.ensures.cases.0 in nil_from_length c.loop-next.held.items (omega arith)) (c.loop-next.invariant.given name whole part ends held))
