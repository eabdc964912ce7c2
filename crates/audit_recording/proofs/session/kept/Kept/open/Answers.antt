use Rattle.std.proofs.Common.{◌+◌, ap, refl, sym, ◌∙◌}
use Rattle.audit_views.specs.Parties.{host_name}
use Rattle.audit_recording.specs.Session.Texts.{is_wanted}
use Rattle.audit_recording.specs.declared.session.kept.Kept.{Kept}
use Rattle.audit_recording.proofs.SessionLemmas.Opened.{ok_as}
use Rattle.audit_recording.proofs.SessionLemmas.Texts.{asked_port, unwanted_begun, wanted_begun}
use Rattle.audit_recording.proofs.session.kept.Kept.open.Goals as goal

pub returns-then-not-has-clause-texts : goal.returns-then-not-has-clause-texts
returns-then-not-has-clause-texts c named d carried opens port are =
    unwanted_begun c.args.self.now c.args.transfer named d carried (sym opens) are (record c.args.self.now { opened = c.args.self.now.opened + 1 }) refl refl (sym c.has.ensures ∙ c.if-not-has.true)

pub returns-clause-texts : goal.returns-clause-texts
returns-clause-texts c named d carried opens port are =
    let counted = ap (λ (k : Kept). k.opened) c.keep.ensures.rest in
    ok_as c.keep.result
    (λ so. wanted_begun c.args.self.now c.args.transfer named d carried (sym opens) are c.keep.new.self so.0 (ap (λ (k : Kept). k.wanted) c.keep.ensures.rest) counted
    (ap (is_wanted c.args.self.now.wanted) counted ∙ sym c.has.ensures ∙ c.if-not-has.false) so.1 (so.2 host_name) so.3)
    (c.keep.ensures.kept (asked_port named d carried c.args.transfer opens port))
