use Rattle.std.proofs.Common.{◌≡◌, ◌∷◌, Err, ◌∙◌, subst, rules}
use Rattle.tftp_packet.specs.{meaning}
use Rattle.law_end.specs.{TermsBreak}
use Rattle.tftp_judge.specs.{Finds, IsExchange, IsTransferAfter}
use Rattle.tftp_judge.proofs.MessageFound.{finds_stop}
use Rattle.tftp_judge.proofs.StaysAfter.{transfer_kept}
use Rattle.tftp_judge.proofs.transfer.Transfer.pass_block.Goals as goal

pub returns-in_err-keep_block-clause-finds : goal.returns-in_err-keep_block-clause-finds
returns-in_err-keep_block-clause-finds g c = λ h passed d after says right.
    let same : Err c.in_err-keep_block.field-0.0 ≡ c.from_residual.result = search rules in
    subst (Finds (TermsBreak h c.args.self.now.asked passed (meaning c.args.packet.now)) (IsTransferAfter c.keep_block.new.self h (d ∷ passed))) same
    (finds_stop (TermsBreak h c.args.self.now.asked passed (meaning c.args.packet.now)) (IsExchange h c.args.self.now.asked (d ∷ passed) c.keep_block.new.self.exchange) (IsTransferAfter c.keep_block.new.self h (d ∷ passed)) c.in_err-keep_block.field-0.0 (c.in_err-keep_block.ensures.finds h passed d after says right))

pub returns-clause-finds : goal.returns-clause-finds
returns-clause-finds g c = λ h passed d after says right.
    let found = c.in_ok-keep_block.ensures.finds h passed d after says right in (
      found.0,
      transfer_kept c.args.self.now c.keep_block.new.self c.note_sent.new.self h passed d (meaning c.args.packet.now) after says.1 c.requires
          c.keep_block.ensures.rest c.note_sent.ensures.rest found.1 (c.note_sent.ensures.block_sent passed d says) (c.note_sent.ensures.ack_sent passed d says),
    )

pub returns-in_err-keep_block-clause-memory : goal.returns-in_err-keep_block-clause-memory
returns-in_err-keep_block-clause-memory g c = λ h passed after is.
    let same : Err c.in_err-keep_block.field-0.0 ≡ c.from_residual.result = search rules in
    c.in_err-keep_block.ensures.memory h passed after (same ∙ is)
