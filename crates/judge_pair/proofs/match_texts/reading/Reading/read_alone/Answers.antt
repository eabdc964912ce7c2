use Rattle.std.proofs.Common.{arith, refl, ◌∙◌}
use Rattle.tftp_capture.specs.{datagram_of}
use Rattle.judge_pair.specs.MatchTexts.{IsAloneAt, itself}
use Rattle.judge_pair.proofs.MatchTextsLemmas.Sides.{alone_stays}
use Rattle.judge_pair.proofs.MatchTextsLemmas.Steps.{accepted_step, halted_step, refused_step}
use Rattle.judge_pair.proofs.match_texts.reading.Reading.read_alone.Goals as goal

pub returns-in-Err-clause-runs : goal.returns-in-Err-clause-runs
returns-in-Err-clause-runs g c =
    let e = c.in-Err.ensures in
    let i = c.loop-alloc.invariant in
    refused_step c.args.rollover itself IsAloneAt (λ p h k read other at. at) _ _ _ _ _ _ _ _ _ _ _ _ i.goes i.runs (datagram_of c.next.new.datagram) (c.next.ensures.given c.loop-alloc-test.true c.args.rollover)
    refl c.in-Err.field-0 (λ h k read other now at none taken. e.refuses h read now (at none) taken) (λ h k read other at. alone_stays c.judge_next.new.judge h read c.in-Err.field-0 e.keeps) e.keeps

pub loop-alloc-preserved : goal.loop-alloc-preserved
loop-alloc-preserved g c =
    let e = c.in-Ok.ensures in
    let i = c.loop-alloc.invariant in
    let rises = c.next.ensures.rises c.loop-alloc-test.true in
    record {
      goes = c.next.ensures.goes_on c.loop-alloc-test.true ∙ i.goes;
      ready = c.next.ensures.open c.loop-alloc-test.true;
      lines = omega (arith, i.lines, rises, e.counts);
      runs = accepted_step c.args.rollover itself IsAloneAt (λ p h k read other at. at) _ _ _ _ _ _ _ _ _ _ _ _ i.goes i.runs (datagram_of c.next.new.datagram) (c.next.ensures.given c.loop-alloc-test.true c.args.rollover)
          (c.next.ensures.goes_on c.loop-alloc-test.true ∙ i.goes) (λ h k read other now at none taken _. (e.accepts h read now (at none) taken).1) e.goes_on;
    }

pub returns-clause-runs : goal.returns-clause-runs
returns-clause-runs g c =
    halted_step c.args.rollover itself IsAloneAt (λ p h k read other at. at) _ _ _ _ _ _ _ _ _ _ _ c.loop-alloc.judge c.loop-alloc.invariant.goes c.loop-alloc.invariant.runs (c.next.ensures.halted c.loop-alloc-test.false c.args.rollover)
