use Rattle.std.proofs.Common.{◌≡◌, Bool, subst, ap, ◌∙◌}
use Rattle.audit_flows.specs.Lines.{follows_request}
use Rattle.audit_flows.specs.Transfers.{some_of}
use Rattle.audit_flows.specs.{Transfer}
use Rattle.audit_recording.specs.Blame.Frames.{whole_of}
use Rattle.audit_recording.specs.declared.blame.named.Named.{Named}
use Rattle.audit_rows.specs.Viewing.{IsStanding}
use Rattle.audit_rows.proofs.judged.Judged.stands.Goals as goal

pub returns : goal.returns
returns c judging x named carried is =
    let more : c.has_asked_more.result ≡ some_of x.number follows_request (whole_of named carried) =
    c.has_asked_more.ensures (whole_of named carried) is.doubts ∙ ap (λ n. some_of n follows_request (whole_of named carried)) is.kept.number in
    subst (λ (o : Named). IsStanding c.args.told.now.telling.point x (some_of x.number follows_request (whole_of named carried)) o c.args.told.now.view.now c.stands.result) is.trail.options
    (subst (λ (b : Bool). IsStanding c.args.told.now.telling.point x b c.args.self.now.trail.options c.args.told.now.view.now c.stands.result) more
    (subst (λ (y : Transfer). IsStanding c.args.told.now.telling.point y c.has_asked_more.result c.args.self.now.trail.options c.args.told.now.view.now c.stands.result) is.trail.transfer c.stands.ensures))
