use Rattle.std.proofs.Common.{◌≡◌, None, ap, is_some, refl, subst, sym, true≢false, ◌∙◌}
use Rattle.std.specs.BTreeMap.{get}
use Rattle.std.specs.Ordering.{nat_cmp}
use Rattle.audit_flows.specs.{Transfer}
use Rattle.audit_recording.specs.Blame.Kept.{IsTrailOf}
use Rattle.audit_recording.proofs.SessionLemmas.Finding.{heading_fault, is_numbered, is_text, same_fault, same_transfer, trail_there, wanted_there}
use Rattle.audit_recording.proofs.session.text.TextAt.of.Goals as goal

pub returns-clause-found : goal.returns-clause-found
returns-clause-found c named out history carried s is =
    let session = c.args.session.now in
    let t = c.in-Some.trail.now in
    let was = sym c.in-Some.ensures in
    let held = trail_there session named out history carried s is c.args.key t was in
    is_text session named out history carried s is c.args.key c.args.number c.args.end c.args.file.now t c.in-Some-text.text.now _ was (sym c.in-Some-text.ensures) refl
    (c.in_ok-heading.ensures.heading session.audit.judge.judging t.transfer named carried held.2.own)

pub returns-clause-whole : goal.returns-clause-whole
returns-clause-whole c named out history carried s is =
    let session = c.args.session.now in
    let t = c.in-Some.trail.now in
    let was = sym c.in-Some.ensures in
    let held = trail_there session named out history carried s is c.args.key t was in
    let same = same_transfer session named out history carried s is c.args.key t c.in-Some-text.text.now was (sym c.in-Some-text.ensures) in (
      t,
      (session.audit.judge.judging, subst (λ (x : Transfer). IsTrailOf t session.audit.judge.judging x named carried) same held.2.own),
      c.may_lack.ensures.none s is.notes c.if-may_lack.false,
    )

pub returns-in_default-clause-why : goal.returns-in_default-clause-why
returns-in_default-clause-why c named out history carried s is place some wanted =
    let none : None ≡ get nat_cmp c.args.session.now.trails c.args.key = rw c.in_default.is at c.trail.ensures in
    absurd (true≢false (sym some ∙ ap is_some (sym none)))

pub returns-in_default-text-clause-why : goal.returns-in_default-text-clause-why
returns-in_default-text-clause-why c named out history carried s is place some wanted =
    let none : None ≡ get nat_cmp c.args.session.now.kept.texts c.args.key = rw c.in_default-text.is at c.text.ensures in
    absurd (wanted_there c.args.session.now named out history carried s is c.args.key c.args.number c.in-Some.trail.now (sym c.in-Some.ensures) place wanted (sym none))

pub returns-then-may_lack-clause-why : goal.returns-then-may_lack-clause-why
returns-then-may_lack-clause-why c named out history carried s is place some wanted =
    let t = c.in-Some.trail.now in (
      t,
      is_numbered c.args.session.now named out history carried s is c.args.key c.args.number t (sym c.in-Some.ensures) place,
      λ asked. c.may_lack.ensures.some s is.notes asked c.if-may_lack.true,
    )

pub returns-in_err-heading-clause-why : goal.returns-in_err-heading-clause-why
returns-in_err-heading-clause-why c named out history carried s is place some wanted =
    let session = c.args.session.now in
    let t = c.in-Some.trail.now in
    let was = sym c.in-Some.ensures in
    let held = trail_there session named out history carried s is c.args.key t was in
    same_fault c.from_residual.result _ _ c.from_residual.ensures.1
    (heading_fault session named out history carried s is _ c.args.key c.args.number c.args.end c.args.file.now t _ was place c.in_err-heading.ensures.other
    (c.in_err-heading.ensures.long session.audit.judge.judging t.transfer named carried held.2.own))
