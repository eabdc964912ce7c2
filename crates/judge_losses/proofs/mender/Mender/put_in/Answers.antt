use Rattle.std.proofs.Common.{◌≡◌, ◌+◌, List, ◌∷◌, sym, ap, ◌∙◌, subst, arith}
use Rattle.tftp_packet.specs.{Dir, In, Out}
use Rattle.tftp_packet.specs.Hosts.{Datagram, Header}
use Rattle.tftp_capture.specs.{datagram_of}
use Rattle.tftp_judge.specs.{IsJudgeAfter}
use Rattle.judge_losses.specs.Places.{one_if_same}
use Rattle.judge_losses.specs.Mended.{Mender}
use Rattle.judge_losses.specs.declared.mender.Put.{Put}
use Rattle.judge_losses.proofs.Filled.{one_way}
use Rattle.judge_losses.proofs.Mending.{puts_one}
use Rattle.judge_losses.proofs.mender.Mender.put_in.Goals.{in-In, in-Out}
use Rattle.judge_losses.proofs.mender.Mender.put_in.Goals as goal

-- one more was put in, which came in or went out
pub loop-turn-preserved : goal.loop-turn-preserved
loop-turn-preserved c =
    let i = c.loop-turn.invariant in
    let spent = c.in_ok-spend.ensures in
    let took = c.in_ok-take.ensures in
    let takes : (h : Header) (all : List Datagram) → IsJudgeAfter c.loop-turn.self.judge h all → IsJudgeAfter c.take.new.self.judge h (datagram_of c.in_ok-made.made ∷ all) =
    (λ h all judged. took.judged h all (subst (λ (m : Mender). IsJudgeAfter m.judge h all) (sym spent) judged)) in
    let came : c.match-made.put.came ≡ one_if_same In c.in_ok-made.made.dir + c.loop-turn.put.came = elim c.match-made.branch [
      | in-In w ↦ (let now = ap (λ (p : Put). p.came) w.put-is in let way = ap (λ (d : Dir). one_if_same In d) w.in-In.is in omega (arith, now, way))
      | in-Out w ↦ (let now = ap (λ (p : Put). p.came) w.put-is in let way = ap (λ (d : Dir). one_if_same In d) w.in-Out.is in omega (arith, now, way))
    ] in
    let sent : c.match-made.put.sent ≡ one_if_same Out c.in_ok-made.made.dir + c.loop-turn.put.sent = elim c.match-made.branch [
      | in-In w ↦ (let now = ap (λ (p : Put). p.sent) w.put-is in let way = ap (λ (d : Dir). one_if_same Out d) w.in-In.is in omega (arith, now, way))
      | in-Out w ↦ (let now = ap (λ (p : Put). p.sent) w.put-is in let way = ap (λ (d : Dir). one_if_same Out d) w.in-Out.is in omega (arith, now, way))
    ] in
    record {
      puts = puts_one _ c.loop-turn.self.judge c.take.new.self.judge c.loop-turn.put.came c.loop-turn.put.sent _ _ (datagram_of c.in_ok-made.made) i.puts takes came sent;
      turns = omega (arith, came, sent, one_way c.in_ok-made.made.dir, i.turns);
      places = took.places ∙ ap (λ (m : Mender). m.places) spent ∙ i.places;
      recorded = took.recorded ∙ ap (λ (m : Mender). m.recorded) spent ∙ i.recorded;
      gave_up = took.gave_up ∙ ap (λ (m : Mender). m.gave_up) spent ∙ i.gave_up;
    }
