use Rattle.std.proofs.Common.{◌≡◌, inl, sym, subst, ap}
use Rattle.tftp_judge.specs.{HasAnswer, Transfer, IsExchange, exchange_of}
use Rattle.tftp_judge.proofs.MessageFound.{finds_with}
use Rattle.tftp_judge.proofs.StaysAfter.{has_answer}
use Rattle.tftp_judge.proofs.transfer.Transfer.keep_block.Goals as goal

pub returns-in_default-clause-finds : goal.returns-in_default-clause-finds
returns-in_default-clause-finds g c = λ h passed d after says right.
    let is : exchange_of c.self.inside.exchange ≡ c.args.self.now.exchange = ap (λ (t : Transfer). t.exchange) c.self.view_is in
    let answered : HasAnswer (exchange_of c.self.inside.exchange) = has_answer c.self.inside.exchange c.in_default.not-Unanswered in
    let kept = subst (IsExchange h c.args.self.now.asked passed) (sym is) after.exchange in
    finds_with _ _ c.pass.result (c.pass.ensures.finds h c.args.self.now.asked passed answered kept) (c.pass.ensures.ok h c.args.self.now.asked passed d kept says right (inl answered))
