use Rattle.std.proofs.Common.{arith, refl, ap, is_some, Option, ◌∙◌}
use Rattle.tftp_capture.specs.{datagram_of}
use Rattle.tftp_packet.specs.Hosts.{Datagram}
use Rattle.tftp_judge.specs.{Refuses}
use Rattle.judge_pair.specs.MatchTexts.{IsRestAt, left_judge_at}
use Rattle.judge_pair.proofs.MatchTextsLemmas.Sides.{own_of_rest, rest_grows, rest_says, rest_stays}
use Rattle.judge_pair.proofs.MatchTextsLemmas.Steps.{accepted_step, halted_step, refused_step}
use Rattle.judge_pair.proofs.match_texts.reading.Reading.read_rest.Goals as goal

pub returns-in-Err-clause-runs : goal.returns-in-Err-clause-runs
returns-in-Err-clause-runs g c =
    let e = c.in-Err.ensures in
    let i = c.loop-alloc.invariant in
    refused_step c.args.rollover (left_judge_at c.args.end) (IsRestAt c.args.end) (own_of_rest c.args.end) _ _ _ _ _ _ _ _ _ _ _ _ i.goes i.runs (datagram_of c.next.new.datagram) (c.next.ensures.given c.loop-alloc-test.true c.args.rollover)
    refl c.in-Err.field-0 (rest_says c.args.rollover c.args.end c.loop-alloc.rest (datagram_of c.next.new.datagram) (λ h read now. Refuses h read now c.in-Err.field-0) e.refuses_client e.refuses_server)
    (rest_stays c.args.end c.loop-alloc.rest c.take.new.self e.stays) e.keeps

pub loop-alloc-preserved : goal.loop-alloc-preserved
loop-alloc-preserved g c =
    let e = c.in-Ok.ensures in
    let i = c.loop-alloc.invariant in
    let rises = c.next.ensures.rises c.loop-alloc-test.true in
    record {
      goes = c.next.ensures.goes_on c.loop-alloc-test.true ∙ i.goes;
      ready = c.next.ensures.open c.loop-alloc-test.true;
      lines = omega (arith, i.lines, rises, e.counts);
      waited = ap (λ (o : Option Datagram). is_some o) c.take.ensures.waited ∙ i.waited;
      numbered = λ r is. c.take.ensures.numbered c.args.end (i.numbered r is);
      runs = accepted_step c.args.rollover (left_judge_at c.args.end) (IsRestAt c.args.end) (own_of_rest c.args.end) _ _ _ _ _ _ _ _ _ _ _ _ i.goes i.runs (datagram_of c.next.new.datagram) (c.next.ensures.given c.loop-alloc-test.true c.args.rollover)
          (c.next.ensures.goes_on c.loop-alloc-test.true ∙ i.goes) (λ h k read other now at _ taken. rest_grows c.args.rollover c.args.end c.loop-alloc.rest c.take.new.self (datagram_of c.next.new.datagram) e.client e.server h k read other now at taken) e.goes_on;
      other = c.take.ensures.other ∙ i.other;
    }

pub returns-clause-runs : goal.returns-clause-runs
returns-clause-runs g c =
    halted_step c.args.rollover (left_judge_at c.args.end) (IsRestAt c.args.end) (own_of_rest c.args.end) _ _ _ _ _ _ _ _ _ _ _ c.loop-alloc.rest c.loop-alloc.invariant.goes c.loop-alloc.invariant.runs (c.next.ensures.halted c.loop-alloc-test.false c.args.rollover)
