use Rattle.std.proofs.Common.{rules, Err, ◌≡◌, sym, subst, ap, ◌∙◌}
use Rattle.std.proofs.lemmas.Result.{err_from_is_err_and}
use Rattle.tftp_packet.specs.{Data, Packet, Spells, meaning}
use Rattle.tftp_packet.specs.{In, Out}
use Rattle.tftp_ends.specs.{IsAside, IsFound, IsOfItsAuthor}
use Rattle.tftp_ends.proofs.AfterSender.{sender_aside}
use Rattle.tftp_ends.proofs.SenderRules.{one_part, own_way, other_way, out_of}
use Rattle.tftp_ends.proofs.sender_state.SenderState.pass.Goals as goal

pub returns-in_err-pass_data-in-Data-clause-found : goal.returns-in_err-pass_data-in-Data-clause-found
returns-in_err-pass_data-in-Data-clause-found g c = λ passed after.
    let is = err_from_is_err_and c.from_residual.result c.from_residual.ensures.1 in
    let same : Err c.in_err-pass_data-in-Data.field-0.0 ≡ c.from_residual.result = sym (is.1 ∙ ap Err is.2) in
    subst (λ (p : Packet). IsFound c.args.self.now.terms passed (meaning p) c.from_residual.result) (sym c.in-Data.is)
    (subst (IsFound c.args.self.now.terms passed (Data c.in-Data.block c.in-Data.bytes.now)) same (c.in_err-pass_data-in-Data.ensures.found passed after))

pub returns-in_ok-pass_data-in-Data-clause-after : goal.returns-in_ok-pass_data-in-Data-clause-after
returns-in_ok-pass_data-in-Data-clause-after g c = λ passed d after says author.
    let of = subst (IsOfItsAuthor c.args.self.now.terms c.args.dir) (ap meaning c.in-Data.is) author in
    let way : c.args.dir ≡ Out = own_way _ _ c.args.dir of c.in_ok-pass_data-in-Data.ensures.sends in
    c.in_ok-pass_data-in-Data.ensures.after passed d after (says.0 ∙ way, subst (λ (p : Packet). Spells d.payload (meaning p)) c.in-Data.is says.1)

pub returns-in_ok-pass_ack-in-Ack-clause-after : goal.returns-in_ok-pass_ack-in-Ack-clause-after
returns-in_ok-pass_ack-in-Ack-clause-after g c = λ passed d after says author.
    let of = subst (IsOfItsAuthor c.args.self.now.terms c.args.dir) (ap meaning c.in-Ack.is) author in
    let way : c.args.dir ≡ In = other_way _ _ c.args.dir of (one_part _ _ c.in_ok-pass_ack-in-Ack.ensures.sends) in
    c.in_ok-pass_ack-in-Ack.ensures.after passed d after (says.0 ∙ way, subst (λ (p : Packet). Spells d.payload (meaning p)) c.in-Ack.is says.1)

pub returns-then-eq-clause-after : goal.returns-then-eq-clause-after
returns-then-eq-clause-after g c = λ passed d after says author.
    let way : c.args.dir ≡ In = search rules in
    c.peer_stopped.ensures.after passed d c.in-Error.code c.in-Error.message.now after (says.0 ∙ way, subst (λ (p : Packet). Spells d.payload (meaning p)) c.in-Error.is says.1)

pub returns-else-eq-clause-after : goal.returns-else-eq-clause-after
returns-else-eq-clause-after g c = λ passed d after says author.
    sender_aside _ passed d (meaning c.args.packet.now) after says.1 (subst (IsAside d.dir) (ap meaning (sym c.in-Error.is)) (says.0 ∙ out_of c.args.dir (search rules)))

pub returns-in-Request-clause-after : goal.returns-in-Request-clause-after
returns-in-Request-clause-after g c = λ passed d after says author.
    sender_aside _ passed d (meaning c.args.packet.now) after says.1 (subst (IsAside d.dir) (ap meaning (sym c.in-Request.is)) tt)

pub returns-in-Oack-clause-after : goal.returns-in-Oack-clause-after
returns-in-Oack-clause-after g c = λ passed d after says author.
    sender_aside _ passed d (meaning c.args.packet.now) after says.1 (subst (IsAside d.dir) (ap meaning (sym c.in-Oack.is)) tt)
