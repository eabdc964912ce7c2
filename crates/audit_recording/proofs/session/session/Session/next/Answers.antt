use Rattle.std.proofs.Common.{◌≡◌, ◌∷◌, ◌++◌, Bool, true, false, Result, Ok, Err, OnOk, inr, sym, ap, subst, ◌∙◌}
use Rattle.net_udp.specs.Recording.{StandsFor}
use Rattle.audit_flows.specs.{AttributionFault}
use Rattle.audit_recording.specs.Session.Heard.{AreUnreachedKept}
use Rattle.audit_recording.specs.Session.Kept.{AddsFrame, IsReadAfter, IsSessionAfter, ReadsOn}
use Rattle.audit_recording.specs.declared.session.session.Session.{Session}
use Rattle.audit_recording.specs.declared.session.unreached.Unreached.{Unreached}
use Rattle.audit_recording.proofs.SessionLemmas.Faults.{not_many, same_error}
use Rattle.audit_recording.proofs.SessionLemmas.Hearing.{as_heard, as_read, frame_added, kept_before}
use Rattle.audit_recording.proofs.SessionLemmas.Recording.{errs_so}
use Rattle.audit_recording.proofs.SessionLemmas.Trails.{always_err}
use Rattle.audit_recording.proofs.session.session.Session.next.Goals as goal

of_ok : {T E P : Type 0} (r : Result T E) (x : T) → r ≡ Ok x → OnOk r P → P
of_ok (Ok y) x is has = has
of_ok (Err e) x is has = absurd (cc)

pub returns-in_err-goes_on-clause-goes_on : goal.returns-in_err-goes_on-clause-goes_on
returns-in_err-goes_on-clause-goes_on g c named out bytes history carried s stands is =
    let read = c.read.ensures.goes_on named out bytes history carried s stands (as_read c.args.self.now named out history carried s is) in (
      read.0,
      read.1,
      errs_so (λ frames datagrams noticed. StandsFor c.read.new.recording (bytes ++ read.0) frames × IsSessionAfter c.read.new.self named out frames datagrams noticed) history carried s c.from_residual.result c.from_residual.ensures.0,
    )

pub returns-in_err-goes_on-clause-many : goal.returns-in_err-goes_on-clause-many
returns-in_err-goes_on-clause-many g c named out history carried s is many =
    c.in_err-goes_on.ensures.many named out history carried s (as_read c.args.self.now named out history carried s is) (same_error c.from_residual.result _ _ c.from_residual.ensures.1 many)

pub returns-in_err-hear-clause-many : goal.returns-in_err-hear-clause-many
returns-in_err-hear-clause-many g c named out history carried s is many =
    absurd (not_many c.from_residual-in_err-hear.result c.from_residual-in_err-hear.ensures.1 many)

pub returns-in_err-hear-clause-goes_on : goal.returns-in_err-hear-clause-goes_on
returns-in_err-hear-clause-goes_on g c named out bytes history carried s stands is =
    let read = c.read.ensures.goes_on named out bytes history carried s stands (as_read c.args.self.now named out history carried s is) in (
      read.0,
      read.1,
      errs_so
          (λ frames datagrams noticed. StandsFor c.read.new.recording (bytes ++ read.0) frames × IsSessionAfter (record c.read.new.self { unreached = c.hear.new.unreached }) named out frames datagrams noticed) history carried s
          c.from_residual-in_err-hear.result c.from_residual-in_err-hear.ensures.0,
    )

pub returns-in_err-hear-clause-wants : goal.returns-in_err-hear-clause-wants
returns-in_err-hear-clause-wants g c named out bytes history carried s stands is =
    let read = c.read.ensures.goes_on named out bytes history carried s stands (as_read c.args.self.now named out history carried s is) in
    let on : c.read.result ≡ Ok true = c.in_ok-goes_on.was ∙ ap Ok c.if-goes_on.true in
    let goes = subst (ReadsOn (λ frames datagrams noticed. StandsFor c.read.new.recording (bytes ++ read.0) frames
    × (IsReadAfter c.read.new.self named out frames datagrams noticed × AddsFrame history carried c.read.new.event frames datagrams)) history carried s) on read.2 in
    always_err c.from_residual-in_err-hear.result (inr (goes.0 ∷ history, goes.1, goes.3, goes.4.1.0.kept.audit))

pub returns-in_ok-hear-clause-goes_on : goal.returns-in_ok-hear-clause-goes_on
returns-in_ok-hear-clause-goes_on g c named out bytes history carried s stands is =
    let read = c.read.ensures.goes_on named out bytes history carried s stands (as_read c.args.self.now named out history carried s is) in
    let Read : Result Bool AttributionFault → Type 0 = ReadsOn (λ frames datagrams noticed. StandsFor c.read.new.recording (bytes ++ read.0) frames
    × (IsReadAfter c.read.new.self named out frames datagrams noticed × AddsFrame history carried c.read.new.event frames datagrams)) history carried s in
    let after : Session = record c.read.new.self { unreached = c.hear.new.unreached } in
    let Heard : Result Bool AttributionFault → Type 0 = ReadsOn (λ frames datagrams noticed. StandsFor c.read.new.recording (bytes ++ read.0) frames
    × IsSessionAfter after named out frames datagrams noticed) history carried s in
    let was : AreUnreachedKept c.read.new.self.unreached named out history carried = subst (λ (m : Unreached). AreUnreachedKept m named out history carried) (sym c.read.ensures.unreached) is.kept.unreached in
    let goes : Read (Ok true) = subst Read (c.in_ok-goes_on.was ∙ ap Ok c.if-goes_on.true) read.2 in
    let before = kept_before history carried c.read.new.event goes.0 goes.1 c.read.new.self.unreached named out goes.4.1.1 was in
    let told = of_ok c.hear.result _ c.in_ok-hear.was
    (c.hear.ensures c.read.new.self.audit.judge.judging named out goes.0 history goes.1 goes.2 (frame_added history carried c.read.new.event goes.0 goes.1 goes.4.1.1) goes.4.1.0.noticed goes.4.1.0.kept.trails
    goes.4.1.0.kept.beside before) in
    let now = as_heard c.read.new.self c.hear.new.unreached named out (goes.0 ∷ history) goes.1 goes.2 goes.4.1.0 told in (
      read.0,
      read.1,
      subst (λ b. Heard (Ok b)) (sym c.if-goes_on.true) (goes.0, goes.1, goes.2, goes.3, (goes.4.0, now)),
    )

pub returns-else-goes_on-clause-goes_on : goal.returns-else-goes_on-clause-goes_on
returns-else-goes_on-clause-goes_on g c named out bytes history carried s stands is =
    let read = c.read.ensures.goes_on named out bytes history carried s stands (as_read c.args.self.now named out history carried s is) in
    let Read : Result Bool AttributionFault → Type 0 = ReadsOn (λ frames datagrams noticed. StandsFor c.read.new.recording (bytes ++ read.0) frames
    × (IsReadAfter c.read.new.self named out frames datagrams noticed × AddsFrame history carried c.read.new.event frames datagrams)) history carried s in
    let Heard : Result Bool AttributionFault → Type 0 = ReadsOn (λ frames datagrams noticed. StandsFor c.read.new.recording (bytes ++ read.0) frames
    × IsSessionAfter c.read.new.self named out frames datagrams noticed) history carried s in
    let was : AreUnreachedKept c.read.new.self.unreached named out history carried = subst (λ (m : Unreached). AreUnreachedKept m named out history carried) (sym c.read.ensures.unreached) is.kept.unreached in
    let ends : Read (Ok false) = subst Read (c.in_ok-goes_on.was ∙ ap Ok c.if-goes_on.false) read.2 in (
      read.0,
      read.1,
      subst (λ b. Heard (Ok b)) (sym c.if-goes_on.false) (ends.0, as_heard c.read.new.self c.read.new.self.unreached named out history carried s ends.1.0 was),
    )
