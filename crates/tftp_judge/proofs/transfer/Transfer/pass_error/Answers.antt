use Rattle.std.proofs.Common.{inr, sym, subst}
use Rattle.tftp_packet.specs.{Message, Spells}
use Rattle.law_model.specs.Rules.{author_of}
use Rattle.law_end.specs.{IsWrongKind}
use Rattle.tftp_judge.specs.{Transfer, IsTransferAfter, exchange_of}
use Rattle.tftp_judge.proofs.StaysAfter.{error_is_right, transfer_with_error}
use Rattle.tftp_judge.proofs.transfer.Transfer.pass_error.Goals as goal

pub returns-clause-ok : goal.returns-clause-ok
returns-clause-ok g c = λ h passed d after says stays.
    let was = subst (λ (t : Transfer). IsTransferAfter t h passed) (sym c.self.view_is) after in
    let right = subst (λ (m : Message). IsWrongKind (author_of h.named c.args.dir) c.self.inside.asked.side m → ⊥) (sym c.requires)
    (error_is_right (author_of h.named c.args.dir) c.self.inside.asked.side c.args.code c.args.message.now) in
    transfer_with_error _ h passed d c.args.dir c.args.code c.args.message.now (exchange_of c.pass.new.self) c.note.new.self was says
    (c.in_ok-pass.ensures.ok h c.self.inside.asked passed d was.exchange (says.0, subst (Spells d.payload) (sym c.requires) says.1) right (inr (c.args.code, c.args.message.now, c.requires)))
    (c.in_ok-note.ensures.ok passed d was.errors says stays)
