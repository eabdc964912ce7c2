use Rattle.std.proofs.Common.{[], ◌∷◌, false, sym, subst}
use Rattle.tftp_packet.specs.{End}
use Rattle.tftp_packet.specs.Hosts.{Datagram, Header}
use Rattle.tftp_judge.specs.{IsJudgeAfter}
use Rattle.law_tap.specs.{header_at}
use Rattle.judge_tap.specs.{IsReceiving, IsRecorded}
use Rattle.judge_tap.proofs.Receivings.{header_is, kept_first}
use Rattle.judge_tap.proofs.receiving.Receiving.begin.Goals as goal

pub returns-clause-ok : goal.returns-clause-ok
returns-clause-ok g c = λ s side d apart end service follows source asks recorded passes.
    let told = c.in_default.ensures.accepts (header_at s side) [] (subst (λ (h : Header). IsJudgeAfter c.new-judge.result h []) (header_is s side c.args.end c.args.service c.args.rollover end service follows) c.new-judge.ensures) in
    let after = subst (λ (x : Datagram). IsJudgeAfter c.feed.new.self (header_at s side) (x ∷ [])) (subst (λ (e : End). IsRecorded s e d c.args.request.now) end recorded) told.1 in
    subst (λ (e : End). IsReceiving (record { judge = c.feed.new.self; end = e; answered = false }) s side (d ∷ [])) (sym end) (kept_first s side d c.feed.new.self apart source asks after)
