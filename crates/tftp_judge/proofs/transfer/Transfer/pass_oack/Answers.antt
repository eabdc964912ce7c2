use Rattle.std.proofs.Common.{◌≡◌, ◌∷◌, sym, subst, ap, ◌∙◌}
use Rattle.tftp_packet.specs.{map_of}
use Rattle.tftp_judge.specs.{Transfer, Agreed, Unanswered, IsExchange, IsTransferAfter, exchange_of}
use Rattle.tftp_judge.proofs.MessageFound.{first_oack_finds, later_oack_finds}
use Rattle.tftp_judge.proofs.NewMessages.{no_oack}
use Rattle.tftp_judge.proofs.StaysAfter.{transfer_with_later_oack}
use Rattle.tftp_judge.proofs.transfer.Transfer.pass_oack.Goals as goal

pub returns-in-Agreed-clause-finds : goal.returns-in-Agreed-clause-finds
returns-in-Agreed-clause-finds g c = λ h passed d after says.
    let is : c.args.self.now.exchange ≡ Agreed c.in-Agreed.first c.in-Agreed.field-1 = sym (ap (λ (t : Transfer). t.exchange) c.self.view_is) ∙ ap exchange_of c.in-Agreed.is in
    let kept = subst (IsExchange h c.args.self.now.asked passed) is after.exchange in
    later_oack_finds h.rollover c.args.self.now.asked passed c.args.dir (map_of c.args.oack.now) c.in-Agreed.first kept.answered (Unit {0}) (IsTransferAfter c.args.self.now h (d ∷ passed))
    (λ _. transfer_with_later_oack c.args.self.now h passed d (map_of c.args.oack.now) c.in-Agreed.first c.in-Agreed.field-1 is after says.1)
    c.later_oack.result (c.later_oack.ensures.finds h passed after)

pub returns-in-Unanswered-clause-finds : goal.returns-in-Unanswered-clause-finds
returns-in-Unanswered-clause-finds g c = λ h passed d after says.
    let is : c.args.self.now.exchange ≡ Unanswered = sym (ap (λ (t : Transfer). t.exchange) c.self.view_is) ∙ ap exchange_of c.in-Unanswered.is in
    let kept = subst (IsExchange h c.args.self.now.asked passed) is after.exchange in
    first_oack_finds h.rollover c.args.self.now.asked passed c.args.dir (map_of c.args.oack.now) kept.0 (IsTransferAfter c.first_oack.new.self h (d ∷ passed)) c.first_oack.result
    (c.first_oack.ensures.finds h passed d after says.1)

pub returns-in-Unanswered-clause-memory : goal.returns-in-Unanswered-clause-memory
returns-in-Unanswered-clause-memory g c = λ h passed after is.
    let there : c.args.self.now.exchange ≡ Unanswered = sym (ap (λ (t : Transfer). t.exchange) c.self.view_is) ∙ ap exchange_of c.in-Unanswered.is in
    no_oack c.args.self.now.asked.side passed (subst (IsExchange h c.args.self.now.asked passed) there after.exchange).0
