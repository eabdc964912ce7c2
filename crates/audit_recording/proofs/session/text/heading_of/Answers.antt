use Rattle.std.proofs.Common.{◌≡◌, subst, sym, ◌∙◌}
use Rattle.audit_views.specs.Texts.{IsComment}
use Rattle.audit_recording.specs.Session.Texts.{heading_text, server_in}
use Rattle.audit_recording.proofs.SessionLemmas.Finding.{memory_not_long, memory_other}
use Rattle.audit_recording.proofs.session.text.heading_of.Goals as goal

pub returns-in-Some-clause-heading : goal.returns-in-Some-clause-heading
returns-in-Some-clause-heading c judging x named carried is =
    c.in-Some.ensures.words ∙ (c.in_ok-words.ensures
    ∙ (λ i. heading_text c.args.number c.args.file.now c.args.end ((is.transfer i).client) (c.server-server.ensures judging x named carried is i)))

pub returns-in-None-clause-long : goal.returns-in-None-clause-long
returns-in-None-clause-long c judging x named carried is same comment =
    let are : c.in_ok-words.words.items ≡ heading_text c.args.number c.args.file.now c.args.end x.client (server_in x named carried) =
    c.in_ok-words.ensures ∙ (λ i. heading_text c.args.number c.args.file.now c.args.end ((is.transfer i).client) (c.server-server.ensures judging x named carried is i)) in
    c.new.ensures.refused c.in-None.is (subst IsComment (sym are) comment)

pub returns-in_err-words-clause-long : goal.returns-in_err-words-clause-long
returns-in_err-words-clause-long c judging x named carried is same comment = memory_not_long c.from_residual.result _ c.from_residual.ensures.1 same

pub returns-in_err-words-clause-other : goal.returns-in_err-words-clause-other
returns-in_err-words-clause-other c = memory_other c.from_residual.result _ c.from_residual.ensures.1
