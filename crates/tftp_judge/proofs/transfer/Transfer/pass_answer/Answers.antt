use Rattle.std.proofs.Common.{◌≡◌, ◌∷◌, sym, subst, ap, ◌∙◌}
use Rattle.std.proofs.lemmas.Bool.{false≢true}
use Rattle.std.proofs.lemmas.Result.{err_from_is_err_and}
use Rattle.tftp_packet.specs.{meaning, Side}
use Rattle.tftp_ends.specs.{terms_of}
use Rattle.law_model.specs.{Plain}
use Rattle.law_end.specs.{Begins, plain_terms}
use Rattle.tftp_judge.specs.{WaitsForReply, Transfer, IsExchange}
use Rattle.tftp_judge.proofs.MessageFound.{finds_rejected}
use Rattle.tftp_judge.proofs.Replied.{not_started, not_begun, none_broken, has_begun, of_author}
use Rattle.tftp_judge.proofs.transfer.Transfer.pass_answer.Goals as goal

pub returns-then-waits_for_reply-clause-finds : goal.returns-then-waits_for_reply-clause-finds
returns-then-waits_for_reply-clause-finds g c = λ h passed d after says right.
    let kept = subst (IsExchange h c.args.self.now.asked passed) c.requires.unanswered after.exchange in
    let side : c.side.result ≡ c.args.self.now.asked.side = c.side.ensures ∙ ap (λ (t : Transfer). t.asked.side) c.self.view_is in
    not_started h c.args.self.now.asked passed kept.0 kept.1 (meaning c.args.packet.now) c.side.result (sym side) (c.waits_for_reply.ensures.0 c.if-waits_for_reply.true)

pub returns-in_err-pass-clause-finds : goal.returns-in_err-pass-clause-finds
returns-in_err-pass-clause-finds g c = λ h passed d after says right.
    let asked = c.args.self.now.asked in
    let kept = subst (IsExchange h asked passed) c.requires.unanswered after.exchange in
    let side : c.side.result ≡ asked.side = c.side.ensures ∙ ap (λ (t : Transfer). t.asked.side) c.self.view_is in
    let other : WaitsForReply asked.side (meaning c.args.packet.now) → ⊥ =
    λ waits. false≢true (sym c.if-waits_for_reply.false ∙ c.waits_for_reply.ensures.1 (subst (λ (s : Side). WaitsForReply s (meaning c.args.packet.now)) (sym side) waits)) in
    let terms : terms_of c.begin-end.result ≡ plain_terms h asked.side Plain =
    c.begin-end.ensures.terms ∙ c.plain_terms.ensures.are h (sym after.named) (sym after.rollover) in
    finds_rejected _ _ c.in_err-pass.field-0.0 c.from_residual.result (err_from_is_err_and c.from_residual.result c.from_residual.ensures.1)
    (not_begun h asked passed kept.0 kept.1 (meaning c.args.packet.now) c.requires.kind other (terms_of c.begin-end.result) terms (IsExchange h asked (d ∷ passed) c.args.self.now.exchange) c.in_err-pass.field-0.0
    (c.in_err-pass.ensures.found passed (c.begin-end.ensures.before passed after.errors kept.1)))

pub returns-clause-finds : goal.returns-clause-finds
returns-clause-finds g c = λ h passed d after says right.
    let asked = c.args.self.now.asked in
    let kept = subst (IsExchange h asked passed) c.requires.unanswered after.exchange in
    let side : c.side.result ≡ asked.side = c.side.ensures ∙ ap (λ (t : Transfer). t.asked.side) c.self.view_is in
    let other : WaitsForReply asked.side (meaning c.args.packet.now) → ⊥ =
    λ waits. false≢true (sym c.if-waits_for_reply.false ∙ c.waits_for_reply.ensures.1 (subst (λ (s : Side). WaitsForReply s (meaning c.args.packet.now)) (sym side) waits)) in
    let terms : terms_of c.begin-end.result ≡ plain_terms h asked.side Plain =
    c.begin-end.ensures.terms ∙ c.plain_terms.ensures.are h (sym after.named) (sym after.rollover) in
    let begun = c.begin-end.ensures.before passed after.errors kept.1 in
    let lawful = c.in_ok-pass.ensures.found passed begun in (
      none_broken h asked passed kept.0 kept.1 (meaning c.args.packet.now) c.requires.kind other (terms_of c.begin-end.result) terms lawful,
      has_begun h asked passed kept.0 kept.1 (meaning c.args.packet.now) c.requires.kind other (terms_of c.begin-end.result) terms lawful d c.args.dir says c.pass.new.self c.in_ok-pass.ensures.terms
          (c.in_ok-pass.ensures.after passed d begun says (of_author h asked Begins (terms_of c.begin-end.result) c.args.dir (meaning c.args.packet.now) terms right)),
    )
