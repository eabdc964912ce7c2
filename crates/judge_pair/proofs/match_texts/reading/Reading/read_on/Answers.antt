use Rattle.std.proofs.Common.{arith, refl, sym, ◌∙◌}
use Rattle.tftp_capture.specs.{datagram_of}
use Rattle.tftp_judge.specs.{Refuses}
use Rattle.law_end.specs.{Passes}
use Rattle.judge_pair.specs.Judge.{side_at}
use Rattle.law_model.specs.Model.Roles.{other_end}
use Rattle.judge_pair.specs.MatchTexts.{IsPairAt, judge_at}
use Rattle.judge_pair.proofs.MatchTextsLemmas.Sides.{none_held, own_of_pair, pair_grows, pair_says, pair_stays, same_twice}
use Rattle.judge_pair.proofs.MatchTextsLemmas.Steps.{accepted_step, halted_step, refused_step}
use Rattle.judge_pair.proofs.match_texts.reading.Reading.read_on.Goals as goal

pub returns-in-Err-clause-runs : goal.returns-in-Err-clause-runs
returns-in-Err-clause-runs g c =
    let e = c.in-Err.ensures in
    let i = c.loop-alloc.invariant in
    refused_step c.args.rollover (judge_at c.args.end) (IsPairAt c.args.end) (own_of_pair c.args.end) _ _ _ _ _ _ _ _ _ _ _ _ i.goes i.runs (datagram_of c.next.new.datagram) (c.next.ensures.given c.loop-alloc-test.true c.args.rollover)
    refl c.in-Err.field-0 (pair_says c.args.rollover c.args.end c.loop-alloc.pair (datagram_of c.next.new.datagram) (λ h read now. Refuses h read now c.in-Err.field-0) e.refuses_client e.refuses_server)
    (pair_stays c.args.end c.loop-alloc.pair c.take.new.self e.stays) e.keeps

pub returns-in-Err-clause-other : goal.returns-in-Err-clause-other
returns-in-Err-clause-other g c = same_twice (side_at (other_end c.args.end) c.args.pair.now) (side_at (other_end c.args.end) c.loop-alloc.pair) (side_at (other_end c.args.end) c.take.new.self) c.loop-alloc.invariant.other c.take.ensures.other

pub returns-then-waits-clause-runs : goal.returns-then-waits-clause-runs
returns-then-waits-clause-runs g c =
    let e = c.in-Ok.ensures in
    let i = c.loop-alloc.invariant in
    accepted_step c.args.rollover (judge_at c.args.end) (IsPairAt c.args.end) (own_of_pair c.args.end) _ _ _ _ _ _ _ _ _ _ _ _ i.goes i.runs (datagram_of c.next.new.datagram) (c.next.ensures.given c.loop-alloc-test.true c.args.rollover)
    (c.next.ensures.goes_on c.loop-alloc-test.true ∙ i.goes)
    (λ h k read other now at _ taken. pair_grows c.args.rollover c.args.end c.loop-alloc.pair c.take.new.self (datagram_of c.next.new.datagram) (λ h read now. Passes h read now) e.client e.server h k read other now at taken) e.goes_on

pub returns-then-waits-clause-other : goal.returns-then-waits-clause-other
returns-then-waits-clause-other g c = same_twice (side_at (other_end c.args.end) c.args.pair.now) (side_at (other_end c.args.end) c.loop-alloc.pair) (side_at (other_end c.args.end) c.take.new.self) c.loop-alloc.invariant.other c.take.ensures.other

pub loop-alloc-preserved : goal.loop-alloc-preserved
loop-alloc-preserved g c =
    let e = c.in-Ok.ensures in
    let i = c.loop-alloc.invariant in
    let rises = c.next.ensures.rises c.loop-alloc-test.true in
    record {
      goes = c.next.ensures.goes_on c.loop-alloc-test.true ∙ i.goes;
      ready = c.next.ensures.open c.loop-alloc-test.true;
      lines = omega (arith, i.lines, rises, e.counts);
      free = none_held (side_at c.args.end c.take.new.self).held (sym c.waits.ensures ∙ c.if-waits.false);
      grows = omega (arith, i.grows, rises);
      runs = accepted_step c.args.rollover (judge_at c.args.end) (IsPairAt c.args.end) (own_of_pair c.args.end) _ _ _ _ _ _ _ _ _ _ _ _ i.goes i.runs (datagram_of c.next.new.datagram) (c.next.ensures.given c.loop-alloc-test.true c.args.rollover)
          (c.next.ensures.goes_on c.loop-alloc-test.true ∙ i.goes)
          (λ h k read other now at _ taken. pair_grows c.args.rollover c.args.end c.loop-alloc.pair c.take.new.self (datagram_of c.next.new.datagram) (λ h read now. Passes h read now) e.client e.server h k read other now at taken) e.goes_on;
      numbered = λ which was. c.take.ensures.numbered which (i.numbered which was);
      other = same_twice (side_at (other_end c.args.end) c.args.pair.now) (side_at (other_end c.args.end) c.loop-alloc.pair) (side_at (other_end c.args.end) c.take.new.self) i.other c.take.ensures.other;
    }

pub returns-clause-runs : goal.returns-clause-runs
returns-clause-runs g c =
    halted_step c.args.rollover (judge_at c.args.end) (IsPairAt c.args.end) (own_of_pair c.args.end) _ _ _ _ _ _ _ _ _ _ _ c.loop-alloc.pair c.loop-alloc.invariant.goes c.loop-alloc.invariant.runs (c.next.ensures.halted c.loop-alloc-test.false c.args.rollover)
