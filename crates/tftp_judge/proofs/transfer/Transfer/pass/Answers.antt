use Rattle.std.proofs.Common.{◌∷◌, inl, inr, sym, subst, ap, ◌∙◌, OnErr}
use Rattle.std.proofs.lemmas.Bool.{false≢true}
use Rattle.tftp_packet.specs.{Message, meaning, Spells, End, Packet}
use Rattle.tftp_ends.specs.{IsBlockOrAck}
use Rattle.law_model.specs.Rules.{author_of}
use Rattle.law_end.specs.{KindBreaks, GoesOn}
use Rattle.tftp_judge.specs.{Finds, Transfer, Errors, AreErrors, IsTransferAfter, IsNew}
use Rattle.tftp_judge.proofs.MessageFound.{kind_finds, right_kind, error_finds, block_finds}
use Rattle.tftp_judge.proofs.transfer.Transfer.pass.Goals as goal

pub returns-in-Request-clause-finds : goal.returns-in-Request-clause-finds
returns-in-Request-clause-finds g c = λ h passed d after says.
    let asked = c.args.self.now.asked in
    let m = meaning c.args.packet.now in
    let author = c.author_of.ensures ∙ ap (λ (n : End). author_of n c.args.dir) (ap (λ (t : Transfer). t.named) c.self.view_is ∙ after.named) in
    let side = c.side.ensures ∙ ap (λ (t : Transfer). t.asked.side) c.self.view_is in
    let right = right_kind h asked c.args.dir m c.author_of.result c.side.result c.is_wrong_kind.result author side c.if-is_wrong_kind.false c.is_wrong_kind.ensures.1 in
    let stays : GoesOn passed c.args.dir m → ⊥ = λ on. false≢true (sym c.if-goes_on.false ∙ (c.goes_on.ensures passed (subst (λ (e : Errors). AreErrors e passed) (sym (ap (λ (t : Transfer). t.errors) c.self.view_is)) after.errors)).1 on) in
    let told = subst (λ (p : Packet). Spells d.payload (meaning p)) c.in-Request.is says.1 in
    kind_finds h asked passed c.args.dir m right stays (IsTransferAfter c.pass_request.new.self h (d ∷ passed)) c.pass_request.result
    (subst (λ (p : Packet). Finds (KindBreaks h asked passed c.args.dir (meaning p)) (IsTransferAfter c.pass_request.new.self h (d ∷ passed)) c.pass_request.result) (sym c.in-Request.is)
    (c.pass_request.ensures.finds h passed d after (says.0, told)))

pub returns-in-Error-clause-finds : goal.returns-in-Error-clause-finds
returns-in-Error-clause-finds g c = λ h passed d after says.
    let asked = c.args.self.now.asked in
    let m = meaning c.args.packet.now in
    let author = c.author_of.ensures ∙ ap (λ (n : End). author_of n c.args.dir) (ap (λ (t : Transfer). t.named) c.self.view_is ∙ after.named) in
    let side = c.side.ensures ∙ ap (λ (t : Transfer). t.asked.side) c.self.view_is in
    let right = right_kind h asked c.args.dir m c.author_of.result c.side.result c.is_wrong_kind.result author side c.if-is_wrong_kind.false c.is_wrong_kind.ensures.1 in
    let stays : GoesOn passed c.args.dir m → ⊥ = λ on. false≢true (sym c.if-goes_on.false ∙ (c.goes_on.ensures passed (subst (λ (e : Errors). AreErrors e passed) (sym (ap (λ (t : Transfer). t.errors) c.self.view_is)) after.errors)).1 on) in
    let told = subst (λ (p : Packet). Spells d.payload (meaning p)) c.in-Error.is says.1 in
    let still = subst (λ (p : Packet). GoesOn passed c.args.dir (meaning p) → ⊥) c.in-Error.is stays in
    kind_finds h asked passed c.args.dir m right stays (IsTransferAfter c.pass_error.new.self h (d ∷ passed)) c.pass_error.result
    (subst (λ (p : Packet). Finds (KindBreaks h asked passed c.args.dir (meaning p)) (IsTransferAfter c.pass_error.new.self h (d ∷ passed)) c.pass_error.result) (sym c.in-Error.is)
    (error_finds h asked passed c.args.dir c.in-Error.code c.in-Error.message.now (IsTransferAfter c.pass_error.new.self h (d ∷ passed)) c.pass_error.result
    (c.pass_error.ensures.ok h passed d after (says.0, told) still) c.pass_error.ensures.err))

pub returns-in-Oack-clause-finds : goal.returns-in-Oack-clause-finds
returns-in-Oack-clause-finds g c = λ h passed d after says.
    let asked = c.args.self.now.asked in
    let m = meaning c.args.packet.now in
    let author = c.author_of.ensures ∙ ap (λ (n : End). author_of n c.args.dir) (ap (λ (t : Transfer). t.named) c.self.view_is ∙ after.named) in
    let side = c.side.ensures ∙ ap (λ (t : Transfer). t.asked.side) c.self.view_is in
    let right = right_kind h asked c.args.dir m c.author_of.result c.side.result c.is_wrong_kind.result author side c.if-is_wrong_kind.false c.is_wrong_kind.ensures.1 in
    let stays : GoesOn passed c.args.dir m → ⊥ = λ on. false≢true (sym c.if-goes_on.false ∙ (c.goes_on.ensures passed (subst (λ (e : Errors). AreErrors e passed) (sym (ap (λ (t : Transfer). t.errors) c.self.view_is)) after.errors)).1 on) in
    let told = subst (λ (p : Packet). Spells d.payload (meaning p)) c.in-Oack.is says.1 in
    kind_finds h asked passed c.args.dir m right stays (IsTransferAfter c.pass_oack.new.self h (d ∷ passed)) c.pass_oack.result
    (subst (λ (p : Packet). Finds (KindBreaks h asked passed c.args.dir (meaning p)) (IsTransferAfter c.pass_oack.new.self h (d ∷ passed)) c.pass_oack.result) (sym c.in-Oack.is)
    (c.pass_oack.ensures.finds h passed d after (says.0, told)))

pub returns-in-Data-clause-finds : goal.returns-in-Data-clause-finds
returns-in-Data-clause-finds g c = λ h passed d after says.
    let asked = c.args.self.now.asked in
    let m = meaning c.args.packet.now in
    let author = c.author_of.ensures ∙ ap (λ (n : End). author_of n c.args.dir) (ap (λ (t : Transfer). t.named) c.self.view_is ∙ after.named) in
    let side = c.side.ensures ∙ ap (λ (t : Transfer). t.asked.side) c.self.view_is in
    let right = right_kind h asked c.args.dir m c.author_of.result c.side.result c.is_wrong_kind.result author side c.if-is_wrong_kind.false c.is_wrong_kind.ensures.1 in
    let stays : GoesOn passed c.args.dir m → ⊥ = λ on. false≢true (sym c.if-goes_on.false ∙ (c.goes_on.ensures passed (subst (λ (e : Errors). AreErrors e passed) (sym (ap (λ (t : Transfer). t.errors) c.self.view_is)) after.errors)).1 on) in
    let kind : IsBlockOrAck m = elim c.in-Data.is [
      | inl block ↦ subst (λ (p : Packet). IsBlockOrAck (meaning p)) (sym block.2) tt
      | inr ack ↦ subst (λ (p : Packet). IsBlockOrAck (meaning p)) (sym ack.1) tt
    ] in
    kind_finds h asked passed c.args.dir m right stays (IsTransferAfter c.pass_block.new.self h (d ∷ passed)) c.pass_block.result
    (block_finds h asked passed c.args.dir m (IsTransferAfter c.pass_block.new.self h (d ∷ passed)) c.pass_block.result kind (c.pass_block.ensures.finds h passed d after says right))

-- ---- being out of memory

pub returns-in-Error-clause-memory : goal.returns-in-Error-clause-memory
returns-in-Error-clause-memory g c = λ h passed after is.
    let new = subst (λ r. OnErr r (IsNew passed c.args.dir (Message.Error c.in-Error.code c.in-Error.message.now))) is (c.pass_error.ensures.absent h passed after) in
    subst (λ (p : Packet). IsNew passed c.args.dir (meaning p)) (sym c.in-Error.is) new

pub returns-in-Oack-clause-memory : goal.returns-in-Oack-clause-memory
returns-in-Oack-clause-memory g c = λ h passed after is. subst (λ (p : Packet). IsNew passed c.args.dir (meaning p)) (sym c.in-Oack.is) (c.pass_oack.ensures.memory h passed after is)
