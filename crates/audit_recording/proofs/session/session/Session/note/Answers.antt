use Rattle.std.proofs.Common.{List, refl, sym, ap, subst}
use Rattle.net_udp.specs.declared.recording.fate.Fate.TheVariants.{Discarded, Left, Waits}
use Rattle.audit_recording.specs.Session.Beside.{AreMarksKept, Mark}
use Rattle.audit_recording.specs.Session.Noted.{Noticed, finding, going, may_be_datagram, sharers_of}
use Rattle.audit_recording.specs.Session.Recording.{gone_by, reached_by}
use Rattle.audit_recording.proofs.SessionLemmas.Marking.{leaves_beside}
use Rattle.audit_recording.proofs.SessionLemmas.Recording.{carried_same, given_once, left_told, not_discarded, not_left, not_waiting, reached_is, waits_told}
use Rattle.audit_recording.proofs.SessionLemmas.Faults.{not_many}
use Rattle.audit_recording.proofs.session.session.Session.note.Goals as goal

pub returns-in-Datagram-clause-none : goal.returns-in-Datagram-clause-none
returns-in-Datagram-clause-none c named carried s none gives low are = absurd (gives c.in-Datagram.datagram c.in-Datagram.ensures.is)

pub returns-in-Datagram-clause-datagram : goal.returns-in-Datagram-clause-datagram
returns-in-Datagram-clause-datagram c named carried s x a given is came carries later are =
    c.pass.ensures.notes carried s x a is (carried_same c.args.event.now given c.in-Datagram.datagram carried x (given_once c.args.event.now given c.in-Datagram.datagram came c.in-Datagram.ensures.is) carries) later are

pub returns-in_ok-leave-in-Left-clause-none : goal.returns-in_ok-leave-in-Left-clause-none
returns-in_ok-leave-in-Left-clause-none c named carried s none gives low are =
    let reached = reached_is c.args.self.now.notes.clock s.times are.clock in
    let told = left_told c.leave.new.self c.in-Left.why c.args.event.now s c.args.self.now.notes.clock.reached reached
    (λ no. c.in_ok-leave-in-Left.ensures.none s are no) (λ may. c.in_ok-leave-in-Left.ensures.lost s are may low) in (
      Left c.in-Left.why,
      told.0,
      c.in-Left.ensures.is,
      (refl, told.1),
      (told.2, λ out kept. subst (λ (l : List Mark). AreMarksKept c.args.self.now.unplaced c.args.self.now.trails out l) (sym (leaves_beside (may_be_datagram c.in-Left.why) c.in-Left.why c.args.event.now s told.0 told.1)) kept),
    )

pub returns-in_ok-leave-in-Left-clause-datagram : goal.returns-in_ok-leave-in-Left-clause-datagram
returns-in_ok-leave-in-Left-clause-datagram c named carried s x a given is came carries later are = absurd (not_left c.args.event.now given c.in-Left.why came c.in-Left.ensures.is)

pub returns-in_ok-wait-in-Waits-clause-none : goal.returns-in_ok-wait-in-Waits-clause-none
returns-in_ok-wait-in-Waits-clause-none c named carried s none gives low are =
    let reached = reached_is c.args.self.now.notes.clock s.times are.clock in
    let told = waits_told c.wait.new.self c.args.event.now s c.args.self.now.notes.clock.reached reached (c.in_ok-wait-in-Waits.ensures.stands s are low) in (
      Waits,
      told.0,
      c.in-Waits.ensures.is,
      (refl, told.1),
      (told.2, λ out kept. subst (λ (l : List Mark). AreMarksKept c.args.self.now.unplaced c.args.self.now.trails out l) (sym (ap (λ (n : Noticed). n.beside) told.1.2)) kept),
    )

pub returns-in_ok-wait-in-Waits-clause-datagram : goal.returns-in_ok-wait-in-Waits-clause-datagram
returns-in_ok-wait-in-Waits-clause-datagram c named carried s x a given is came carries later are = absurd (not_waiting c.args.event.now given came c.in-Waits.ensures.is)

pub returns-in_ok-discard-in-Discarded-clause-none : goal.returns-in_ok-discard-in-Discarded-clause-none
returns-in_ok-discard-in-Discarded-clause-none c named carried s none gives low are =
    let event = c.args.event.now in
    let given = c.in-Discarded.datagram in (
      Discarded given,
      going (gone_by event given s.times) (finding (reached_by s.times) (sharers_of event) s),
      c.in-Discarded.ensures.is,
      (refl, refl),
      (c.in_ok-discard-in-Discarded.ensures.notes s are, λ out kept. c.in_ok-discard-in-Discarded.ensures.marks s out s.beside are kept),
    )

pub returns-in_ok-discard-in-Discarded-clause-datagram : goal.returns-in_ok-discard-in-Discarded-clause-datagram
returns-in_ok-discard-in-Discarded-clause-datagram c named carried s x a given is came carries later are = absurd (not_discarded c.args.event.now given c.in-Discarded.datagram came c.in-Discarded.ensures.is)

pub returns-in-Datagram-clause-trails : goal.returns-in-Datagram-clause-trails
returns-in-Datagram-clause-trails c named out history carried x a given is came carries at handed audit kept =
    c.pass.ensures.trails named out history carried x a is (carried_same c.args.event.now given c.in-Datagram.datagram carried x (given_once c.args.event.now given c.in-Datagram.datagram came c.in-Datagram.ensures.is) carries) at handed audit kept

pub returns-in_ok-leave-in-Left-clause-trails : goal.returns-in_ok-leave-in-Left-clause-trails
returns-in_ok-leave-in-Left-clause-trails c named out history carried x a given is came carries at handed audit kept = absurd (not_left c.args.event.now given c.in-Left.why came c.in-Left.ensures.is)

pub returns-in_ok-wait-in-Waits-clause-trails : goal.returns-in_ok-wait-in-Waits-clause-trails
returns-in_ok-wait-in-Waits-clause-trails c named out history carried x a given is came carries at handed audit kept = absurd (not_waiting c.args.event.now given came c.in-Waits.ensures.is)

pub returns-in_ok-discard-in-Discarded-clause-trails : goal.returns-in_ok-discard-in-Discarded-clause-trails
returns-in_ok-discard-in-Discarded-clause-trails c named out history carried x a given is came carries at handed audit kept =
    absurd (not_discarded c.args.event.now given c.in-Discarded.datagram came c.in-Discarded.ensures.is)

pub returns-in_err-discard-in-Discarded-clause-same_trails : goal.returns-in_err-discard-in-Discarded-clause-same_trails
returns-in_err-discard-in-Discarded-clause-same_trails c judging named out carried none kept = c.discard.ensures.trails judging named out carried kept

pub returns-in_ok-discard-in-Discarded-clause-same_trails : goal.returns-in_ok-discard-in-Discarded-clause-same_trails
returns-in_ok-discard-in-Discarded-clause-same_trails c judging named out carried none kept = c.discard.ensures.trails judging named out carried kept

pub returns-in-Datagram-clause-texts : goal.returns-in-Datagram-clause-texts
returns-in-Datagram-clause-texts c named carried x a given is came carries at kept =
    c.pass.ensures.texts named carried x a is (carried_same c.args.event.now given c.in-Datagram.datagram carried x (given_once c.args.event.now given c.in-Datagram.datagram came c.in-Datagram.ensures.is) carries) at kept

pub returns-in_ok-leave-in-Left-clause-texts : goal.returns-in_ok-leave-in-Left-clause-texts
returns-in_ok-leave-in-Left-clause-texts c named carried x a given is came carries at kept = absurd (not_left c.args.event.now given c.in-Left.why came c.in-Left.ensures.is)

pub returns-in_ok-wait-in-Waits-clause-texts : goal.returns-in_ok-wait-in-Waits-clause-texts
returns-in_ok-wait-in-Waits-clause-texts c named carried x a given is came carries at kept = absurd (not_waiting c.args.event.now given came c.in-Waits.ensures.is)

pub returns-in_ok-discard-in-Discarded-clause-texts : goal.returns-in_ok-discard-in-Discarded-clause-texts
returns-in_ok-discard-in-Discarded-clause-texts c named carried x a given is came carries at kept =
    absurd (not_discarded c.args.event.now given c.in-Discarded.datagram came c.in-Discarded.ensures.is)

pub returns-in_err-leave-in-Left-clause-memory : goal.returns-in_err-leave-in-Left-clause-memory
returns-in_err-leave-in-Left-clause-memory c many = not_many c.from_residual.result c.from_residual.ensures.1 many

pub returns-in_err-wait-in-Waits-clause-memory : goal.returns-in_err-wait-in-Waits-clause-memory
returns-in_err-wait-in-Waits-clause-memory c many = not_many c.from_residual-in_err-wait-in-Waits.result c.from_residual-in_err-wait-in-Waits.ensures.1 many

pub returns-in_err-discard-in-Discarded-clause-memory : goal.returns-in_err-discard-in-Discarded-clause-memory
returns-in_err-discard-in-Discarded-clause-memory c many = not_many c.from_residual-in_err-discard-in-Discarded.result c.from_residual-in_err-discard-in-Discarded.ensures.1 many

pub returns-in-Datagram-clause-marks : goal.returns-in-Datagram-clause-marks
returns-in-Datagram-clause-marks c named out history carried s x a given is came carries at handed audit trails_kept later are gone kept =
    c.pass.ensures.marks named out history carried s x a is (carried_same c.args.event.now given c.in-Datagram.datagram carried x (given_once c.args.event.now given c.in-Datagram.datagram came c.in-Datagram.ensures.is) carries) at handed audit trails_kept later are gone kept

pub returns-in_ok-leave-in-Left-clause-marks : goal.returns-in_ok-leave-in-Left-clause-marks
returns-in_ok-leave-in-Left-clause-marks c named out history carried s x a given is came carries at handed audit trails_kept later are gone kept =
    absurd (not_left c.args.event.now given c.in-Left.why came c.in-Left.ensures.is)

pub returns-in_ok-wait-in-Waits-clause-marks : goal.returns-in_ok-wait-in-Waits-clause-marks
returns-in_ok-wait-in-Waits-clause-marks c named out history carried s x a given is came carries at handed audit trails_kept later are gone kept =
    absurd (not_waiting c.args.event.now given came c.in-Waits.ensures.is)

pub returns-in_ok-discard-in-Discarded-clause-marks : goal.returns-in_ok-discard-in-Discarded-clause-marks
returns-in_ok-discard-in-Discarded-clause-marks c named out history carried s x a given is came carries at handed audit trails_kept later are gone kept =
    absurd (not_discarded c.args.event.now given c.in-Discarded.datagram came c.in-Discarded.ensures.is)
