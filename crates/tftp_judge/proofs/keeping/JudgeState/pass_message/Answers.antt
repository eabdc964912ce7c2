use Rattle.std.proofs.Common.{◌≡◌, true, List, [], Option, Some, None, inr, refl, sym, subst, ap, ◌∙◌}
use Rattle.std.proofs.lemmas.Slice.Eq.{bytes_eq-Decides}
use Rattle.tftp_packet.specs.{Message, Spells}
use Rattle.law_model.specs.Rules.{route_of, is_of_transfer, transfer_of}
use Rattle.tftp_judge.specs.{AreBytesOf, JudgeState, Transfer, IsKept, IsNew}
use Rattle.tftp_judge.proofs.Accepting.{message_found}
use Rattle.tftp_judge.proofs.Taken.{ack_taken, data_taken, first_taken, neither_taken, oack_taken, request_taken}
use Rattle.tftp_judge.proofs.keeping.JudgeState.pass_message.Goals as goal

pub returns-then-eq-clause-finds : goal.returns-then-eq-clause-finds
returns-then-eq-clause-finds g c = λ h earlier d at one kept is on dir payload.
    let t = c.in-Some.transfer in
    let m = Message.Request t.asked in
    let routed : is_of_transfer (route_of h earlier d) ≡ true = ap is_of_transfer (sym is) ∙ on in
    let there : c.args.self.now.transfer ≡ Some t = sym (ap (λ (k : JudgeState). k.transfer) c.self.view_is) ∙ c.in-Some.is in
    let raw : c.args.payload.now ≡ c.self.inside.asked = (bytes_eq-Decides c.args.payload.now c.as_slice.result.now).0 (sym c.if-eq.ensures) ∙ c.as_slice.ensures in
    let bytes : Spells c.self.inside.asked m = subst (AreBytesOf c.self.inside.asked) c.in-Some.is c.self.invariant in
    let said : Spells c.args.payload.now m = subst (λ (bytes : List _). Spells bytes m) (sym raw) bytes in
    let spells : Spells d.payload m = subst (λ (bytes : List _). Spells bytes m) (sym (request_taken (transfer_of h earlier) c.args.payload.now d.payload c.args.rollover payload t.asked said)) said in
    let kept_now : IsKept h earlier (Some t) = subst (λ (o : Option Transfer). IsKept h earlier o) there kept in
    message_found h earlier d c.args.dir m t t dir routed spells kept_now refl c.pass_again.result (c.pass_again.ensures.finds h (transfer_of h earlier) d kept_now.1 (dir, spells))

pub returns-then-has_agreed_by-clause-finds : goal.returns-then-has_agreed_by-clause-finds
returns-then-has_agreed_by-clause-finds g c = λ h earlier d at one kept is on dir payload.
    let t = c.in-Some.transfer in
    let (given, agreed, bytes) = c.has_agreed_by.ensures c.if-has_agreed_by.true in
    let m = Message.Oack given in
    let routed : is_of_transfer (route_of h earlier d) ≡ true = ap is_of_transfer (sym is) ∙ on in
    let there : c.args.self.now.transfer ≡ Some t = sym (ap (λ (k : JudgeState). k.transfer) c.self.view_is) ∙ c.in-Some.is in
    let spells : Spells d.payload m = subst (λ (bytes : List _). Spells bytes m) (sym (oack_taken (transfer_of h earlier) c.args.payload.now d.payload c.args.rollover payload given bytes)) bytes in
    let kept_now : IsKept h earlier (Some t) = subst (λ (o : Option Transfer). IsKept h earlier o) there kept in
    message_found h earlier d c.args.dir m t t dir routed spells kept_now refl c.pass_oack_again.result (c.pass_oack_again.ensures.finds h (transfer_of h earlier) d given kept_now.1 agreed (dir, spells))

pub returns-in-Some-block_of-clause-finds : goal.returns-in-Some-block_of-clause-finds
returns-in-Some-block_of-clause-finds g c = λ h earlier d at one kept is on dir payload.
    let t = c.in-Some.transfer in
    let m = Message.Data c.block_of-block.result c.in-Some-block_of.bytes.now in
    let routed : is_of_transfer (route_of h earlier d) ≡ true = ap is_of_transfer (sym is) ∙ on in
    let there : c.args.self.now.transfer ≡ Some t = sym (ap (λ (k : JudgeState). k.transfer) c.self.view_is) ∙ c.in-Some.is in
    let kept_now : IsKept h earlier (Some t) = subst (λ (o : Option Transfer). IsKept h earlier o) there kept in
    let spells : Spells d.payload m = data_taken (transfer_of h earlier) c.args.payload.now d.payload c.args.rollover payload c.in-Some-block_of.number c.in-Some-block_of.bytes.now (rw c.in-Some-block_of.is at c.block_of.ensures.spelled) c.block_of-block.result c.block_of-block.ensures.itself (λ r high. c.block_of-block.ensures.near h (transfer_of h earlier) r high kept_now.1) in
    message_found h earlier d c.args.dir m t c.pass.new.self dir routed spells kept_now c.pass.ensures.asked c.pass.result (c.pass.ensures.finds h (transfer_of h earlier) d kept_now.1 (dir, spells))

pub returns-in-Some-block_of-clause-memory : goal.returns-in-Some-block_of-clause-memory
returns-in-Some-block_of-clause-memory g c = λ h earlier d kept is on dir payload want.
    let m = Message.Data c.block_of-block.result c.in-Some-block_of.bytes.now in
    let there : c.args.self.now.transfer ≡ Some c.in-Some.transfer = sym (ap (λ (k : JudgeState). k.transfer) c.self.view_is) ∙ c.in-Some.is in
    let kept_now : IsKept h earlier (Some c.in-Some.transfer) = subst (λ (o : Option Transfer). IsKept h earlier o) there kept in
    inr (
      m,
      record { routed = ap is_of_transfer (sym is) ∙ on; spells = data_taken (transfer_of h earlier) c.args.payload.now d.payload c.args.rollover payload c.in-Some-block_of.number c.in-Some-block_of.bytes.now (rw c.in-Some-block_of.is at c.block_of.ensures.spelled) c.block_of-block.result c.block_of-block.ensures.itself (λ r high. c.block_of-block.ensures.near h (transfer_of h earlier) r high kept_now.1) },
      subst (λ w. IsNew (transfer_of h earlier) w m) (sym dir) (c.pass.ensures.memory h (transfer_of h earlier) kept_now.1 want),
    )

pub returns-in-Some-ack_of-clause-finds : goal.returns-in-Some-ack_of-clause-finds
returns-in-Some-ack_of-clause-finds g c = λ h earlier d at one kept is on dir payload.
    let t = c.in-Some.transfer in
    let m = Message.Ack c.block_of-block-in-Some-ack_of.result in
    let routed : is_of_transfer (route_of h earlier d) ≡ true = ap is_of_transfer (sym is) ∙ on in
    let there : c.args.self.now.transfer ≡ Some t = sym (ap (λ (k : JudgeState). k.transfer) c.self.view_is) ∙ c.in-Some.is in
    let kept_now : IsKept h earlier (Some t) = subst (λ (o : Option Transfer). IsKept h earlier o) there kept in
    let spells : Spells d.payload m = ack_taken (transfer_of h earlier) c.args.payload.now d.payload c.args.rollover payload c.in-Some-ack_of.number (rw c.in-Some-ack_of.is at c.ack_of.ensures.spelled) c.block_of-block-in-Some-ack_of.result c.block_of-block-in-Some-ack_of.ensures.itself (λ r high. c.block_of-block-in-Some-ack_of.ensures.near h (transfer_of h earlier) r high kept_now.1) in
    message_found h earlier d c.args.dir m t c.pass-in-Some-ack_of.new.self dir routed spells kept_now c.pass-in-Some-ack_of.ensures.asked c.pass-in-Some-ack_of.result (c.pass-in-Some-ack_of.ensures.finds h (transfer_of h earlier) d kept_now.1 (dir, spells))

pub returns-in-Some-ack_of-clause-memory : goal.returns-in-Some-ack_of-clause-memory
returns-in-Some-ack_of-clause-memory g c = λ h earlier d kept is on dir payload want.
    let m = Message.Ack c.block_of-block-in-Some-ack_of.result in
    let there : c.args.self.now.transfer ≡ Some c.in-Some.transfer = sym (ap (λ (k : JudgeState). k.transfer) c.self.view_is) ∙ c.in-Some.is in
    let kept_now : IsKept h earlier (Some c.in-Some.transfer) = subst (λ (o : Option Transfer). IsKept h earlier o) there kept in
    inr (
      m,
      record { routed = ap is_of_transfer (sym is) ∙ on; spells = ack_taken (transfer_of h earlier) c.args.payload.now d.payload c.args.rollover payload c.in-Some-ack_of.number (rw c.in-Some-ack_of.is at c.ack_of.ensures.spelled) c.block_of-block-in-Some-ack_of.result c.block_of-block-in-Some-ack_of.ensures.itself (λ r high. c.block_of-block-in-Some-ack_of.ensures.near h (transfer_of h earlier) r high kept_now.1) },
      subst (λ w. IsNew (transfer_of h earlier) w m) (sym dir) (c.pass-in-Some-ack_of.ensures.memory h (transfer_of h earlier) kept_now.1 want),
    )

pub returns-in_default-clause-finds : goal.returns-in_default-clause-finds
returns-in_default-clause-finds g c = λ h earlier d at one kept is on dir payload.
    let none : c.args.self.now.transfer ≡ None = sym (ap (λ (k : JudgeState). k.transfer) c.self.view_is) ∙ c.in_default.is in
    let empty : earlier ≡ [] = subst (IsKept h earlier) none kept in
    c.pass_read.ensures.finds h earlier d (ap (λ (k : JudgeState). k.header) c.self.view_is ∙ at) one (subst (λ (k : JudgeState). IsKept h earlier k.transfer) (sym c.self.view_is) kept) is on dir
    (first_taken (transfer_of h earlier) c.args.payload.now d.payload c.args.rollover payload (ap (transfer_of h) empty) c.holds_bytes.ensures)

pub returns-in_default-clause-memory : goal.returns-in_default-clause-memory
returns-in_default-clause-memory g c = λ h earlier d kept is on dir payload.
    let none : c.args.self.now.transfer ≡ None = sym (ap (λ (k : JudgeState). k.transfer) c.self.view_is) ∙ c.in_default.is in
    let empty : earlier ≡ [] = subst (IsKept h earlier) none kept in
    c.pass_read.ensures.memory h earlier d (subst (λ (k : JudgeState). IsKept h earlier k.transfer) (sym c.self.view_is) kept) is on dir
    (first_taken (transfer_of h earlier) c.args.payload.now d.payload c.args.rollover payload (ap (transfer_of h) empty) c.holds_bytes.ensures)

pub returns-clause-finds : goal.returns-clause-finds
returns-clause-finds g c = λ h earlier d at one kept is on dir payload.
    c.pass_read-2.ensures.finds h earlier d (ap (λ (k : JudgeState). k.header) c.self.view_is ∙ at) one (subst (λ (o : Option Transfer). IsKept h earlier o) (sym (ap (λ (k : JudgeState). k.transfer) c.self.view_is) ∙ c.in-Some.is) kept) is on dir
    (neither_taken (transfer_of h earlier) c.args.payload.now d.payload c.args.rollover payload (c.in_default-block_of.ensures.none refl) (c.in_default-ack_of.ensures.none refl))

pub returns-clause-memory : goal.returns-clause-memory
returns-clause-memory g c = λ h earlier d kept is on dir payload.
    c.pass_read-2.ensures.memory h earlier d (subst (λ (o : Option Transfer). IsKept h earlier o) (sym (ap (λ (k : JudgeState). k.transfer) c.self.view_is) ∙ c.in-Some.is) kept) is on dir
    (neither_taken (transfer_of h earlier) c.args.payload.now d.payload c.args.rollover payload (c.in_default-block_of.ensures.none refl) (c.in_default-ack_of.ensures.none refl))
