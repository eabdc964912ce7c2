use Rattle.std.proofs.Common.{◌≡◌, ◌∷◌, ◌++◌, ℕ, List, Ok, Err, inl, inr, refl, sym, ap, subst, ◌∙◌}
use Rattle.std.specs.BTreeMap.{BTreeMap}
use Rattle.net_pcap.specs.{FrameState}
use Rattle.net_udp.specs.Recording.{StandsFor, Step}
use Rattle.audit_recording.specs.Audit.{AuditsAfter, GoesOn, RecordingAudit}
use Rattle.audit_flows.specs.{AttributionFault}
use Rattle.audit_recording.specs.{AuditFault, NextFrame}
use Rattle.audit_recording.specs.declared.audit.next.NextFrame.TheVariants.{Datagram, Nothing}
use Rattle.audit_recording.specs.Blame.Frames.{Carried, datagrams_of}
use Rattle.audit_recording.specs.Session.Kept.{AddsFrame, IsReadAfter}
use Rattle.audit_recording.specs.Session.Beside.{AreMarksKept, Mark}
use Rattle.audit_recording.specs.Session.Noted.{AreNotesOf, Noticed, with_time}
use Rattle.audit_recording.specs.Session.Recording.{IsNoticedOf, marks_with}
use Rattle.audit_recording.specs.Session.Texts.{AreTextsKept}
use Rattle.audit_recording.specs.Session.Trails.{AreTrailsKept}
use Rattle.audit_recording.specs.declared.blame.trail.Trail.{Trail}
use Rattle.audit_recording.specs.declared.judges.judging.Judging.{Judging}
use Rattle.audit_recording.specs.declared.session.kept.Kept.{Kept as KeptTexts}
use Rattle.audit_recording.specs.declared.session.unplaced.Unplaced.{Unplaced}
use Rattle.audit_recording.specs.declared.audit.next.AuditFault.TheVariants.{Judges}
use Rattle.audit_recording.proofs.AuditLemmas.Counted.{many_frames}
use Rattle.audit_recording.proofs.SessionLemmas.Recording.{always, carry, gives_none, is_carried, reads_on, stops_so}
use Rattle.audit_recording.proofs.SessionLemmas.Heard.{frame_of}
use Rattle.audit_recording.proofs.SessionLemmas.Trails.{always_err, on_ok_both, told_too}
use Rattle.audit_recording.proofs.session.session.Session.read.Goals as goal

pub returns-in-Ok-End-clause-goes_on : goal.returns-in-Ok-End-clause-goes_on
returns-in-Ok-End-clause-goes_on g c named out bytes history carried s stands is =
    let read = c.in-Ok-End.ensures.continues named out bytes history (datagrams_of carried) stands is.kept.audit in
    let goes = subst (λ (n : NextFrame). GoesOn (λ frames datagrams. StandsFor c.next_into.new.recording (bytes ++ read.0) frames × AuditsAfter c.next_into.new.self named out frames datagrams) named history (datagrams_of carried) c.next_into.new.event (Ok n)) c.in-Ok-End.field-0-is read.2 in (
      read.0,
      read.1,
      (
        goes.0,
        (
          record {
            noticed = is.noticed;
            kept = record {
              audit = goes.1;
              notes = is.kept.notes;
              trails = subst (λ (j : Judging). AreTrailsKept c.args.self.now.trails j named out carried) (sym c.in-Ok-End.ensures.judging) is.kept.trails;
              texts = is.kept.texts;
              beside = is.kept.beside;
            };
          },
          inl (refl, refl),
        ),
      ),
    )

pub returns-in-Ok-Nothing-clause-goes_on : goal.returns-in-Ok-Nothing-clause-goes_on
returns-in-Ok-Nothing-clause-goes_on g c named out bytes history carried s stands is =
    let read = c.in-Ok-Nothing.ensures.continues named out bytes history (datagrams_of carried) stands is.kept.audit in
    let goes = subst (λ (n : NextFrame). GoesOn (λ frames datagrams. StandsFor c.next_into.new.recording (bytes ++ read.0) frames × AuditsAfter c.next_into.new.self named out frames datagrams) named history (datagrams_of carried) c.next_into.new.event (Ok n)) c.in-Ok-Nothing.field-0-is read.2 in
    let step : Step = goes.0 in
    let none = gives_none history step c.next_into.new.event (datagrams_of carried) goes.1 is.kept.audit.frames goes.2.1.frames in
    let here = c.args.self.now.audit.judge.judging in
    let judged : here ≡ c.take.new.self.audit.judge.judging = sym (ap (λ (a : RecordingAudit). a.judge.judging) c.take.ensures.audit ∙ c.in-Ok-Nothing.ensures.judging) in
    let On : Noticed → Type 0 = λ t. (more : List ℕ) → AreMarksKept c.args.self.now.unplaced c.args.self.now.trails more s.beside → AreMarksKept c.take.new.self.unplaced c.take.new.self.trails more t.beside in
    let Kept : Type 0 = AreTrailsKept c.take.new.self.trails here named out carried in (
      read.0,
      read.1,
      reads_on
          (λ frames datagrams noticed. StandsFor c.next_into.new.recording (bytes ++ read.0) frames
          × (IsReadAfter c.take.new.self named out frames datagrams noticed × AddsFrame history carried c.take.new.event frames datagrams))
          (λ t. IsNoticedOf named (step ∷ history) carried t) (λ t. (AreNotesOf c.take.new.self.notes t × On t) × Kept) history carried s step carried c.take.result c.take.ensures.goes (inl refl)
          (told_too c.take.result (λ t. IsNoticedOf named (step ∷ history) carried t) (λ t. AreNotesOf c.take.new.self.notes t × On t) Kept
          (c.take.ensures.none named history carried s step refl none goes.1 is.noticed is.kept.notes) (always c.take.result (c.take.ensures.same_trails here named out carried refl is.kept.trails)))
          (λ t noticed notes. (
            goes.2.0,
            (
              record {
                noticed = noticed;
                kept = record {
                  audit = subst (λ (a : RecordingAudit). AuditsAfter a named out (step ∷ history) (datagrams_of carried)) (sym c.take.ensures.audit) goes.2.1;
                  notes = notes.0.0;
                  trails = subst (λ (j : Judging). AreTrailsKept c.take.new.self.trails j named out carried) judged notes.1;
                  texts = subst (λ (k : KeptTexts). AreTextsKept k named carried) (sym (c.take.ensures.same_kept refl)) is.kept.texts;
                  beside = notes.0.1 out is.kept.beside;
                };
              },
              inr (step, refl, frame_of step history c.next_into.new.event c.take.new.event c.take.ensures.frame goes.1, inl refl),
            ),
          )),
    )

pub returns-in-Ok-Datagram-clause-goes_on : goal.returns-in-Ok-Datagram-clause-goes_on
returns-in-Ok-Datagram-clause-goes_on g c named out bytes history carried s stands is =
    let read = c.in-Ok-Datagram.ensures.continues named out bytes history (datagrams_of carried) stands is.kept.audit in
    let goes = subst (λ (n : NextFrame). GoesOn (λ frames datagrams. StandsFor c.next_into.new.recording (bytes ++ read.0) frames × AuditsAfter c.next_into.new.self named out frames datagrams) named history (datagrams_of carried) c.next_into.new.event (Ok n)) c.in-Ok-Datagram.field-0-is read.2 in
    let step : Step = goes.0 in
    let x : Carried = carry c.next_into.new.event goes.1 in
    let given = goes.3.0 in
    let here = c.args.self.now.audit.judge.judging in
    let next = c.next_into.new.self.judge.judging in
    let judged : next ≡ c.take-in-Ok-Datagram.new.self.audit.judge.judging = sym (ap (λ (a : RecordingAudit). a.judge.judging) c.take-in-Ok-Datagram.ensures.audit) in
    let Trails : Type 0 = AreTrailsKept c.take-in-Ok-Datagram.new.self.trails next named out (x ∷ carried) in
    let Texts : Type 0 = AreTextsKept c.take-in-Ok-Datagram.new.self.kept named (x ∷ carried) in
    let marks = marks_with c.in-Ok-Datagram.found.place x (with_time x.time s.times) s.beside in
    let Marks : Type 0 = AreMarksKept c.take-in-Ok-Datagram.new.self.unplaced c.take-in-Ok-Datagram.new.self.trails out marks in
    let Kept : Type 0 = (Trails × Texts) × Marks in
    let were : AreTrailsKept c.args.self.now.trails next named out carried = subst (λ (j : Judging). AreTrailsKept c.args.self.now.trails j named out carried) (sym c.in-Ok-Datagram.ensures.judging) is.kept.trails in (
      read.0,
      read.1,
      reads_on
          (λ frames datagrams noticed. StandsFor c.next_into.new.recording (bytes ++ read.0) frames
          × (IsReadAfter c.take-in-Ok-Datagram.new.self named out frames datagrams noticed × AddsFrame history carried c.take-in-Ok-Datagram.new.event frames datagrams))
          (λ t. IsNoticedOf named (step ∷ history) (x ∷ carried) t) (λ t. (AreNotesOf c.take-in-Ok-Datagram.new.self.notes t × (t.beside ≡ marks)) × Kept) history carried s step (x ∷ carried) c.take-in-Ok-Datagram.result c.take-in-Ok-Datagram.ensures.goes (inr (x, refl))
          (told_too c.take-in-Ok-Datagram.result (λ t. IsNoticedOf named (step ∷ history) (x ∷ carried) t) (λ t. AreNotesOf c.take-in-Ok-Datagram.new.self.notes t × (t.beside ≡ marks)) Kept
          (c.take-in-Ok-Datagram.ensures.datagram named history carried s step x c.in-Ok-Datagram.found given refl goes.2 goes.3.1
          (is_carried c.next_into.new.event given carried goes.1 goes.3.2) goes.4.0 is.noticed is.kept.notes)
          (on_ok_both c.take-in-Ok-Datagram.result (λ (both : Trails × Texts) (more : Marks). (both, more))
          (on_ok_both c.take-in-Ok-Datagram.result (λ (trails : Trails) (texts : Texts). (trails, texts))
          (c.take-in-Ok-Datagram.ensures.trails named out (step ∷ history) carried x c.in-Ok-Datagram.found given refl goes.3.1
          (is_carried c.next_into.new.event given carried goes.1 goes.3.2) goes.4 is.kept.audit.judges.handed goes.5.1 were)
          (c.take-in-Ok-Datagram.ensures.texts named carried x c.in-Ok-Datagram.found given refl goes.3.1
          (is_carried c.next_into.new.event given carried goes.1 goes.3.2) goes.4.0 is.kept.texts))
          (c.take-in-Ok-Datagram.ensures.marks named out history carried s step x c.in-Ok-Datagram.found given refl goes.2 goes.3.1
          (is_carried c.next_into.new.event given carried goes.1 goes.3.2) goes.4 is.kept.audit.judges.handed goes.5.1 were is.noticed is.kept.notes is.kept.beside)))
          (λ t noticed notes. (
            goes.5.0,
            (
              record {
                noticed = noticed;
                kept = record {
                  audit = subst (λ (a : RecordingAudit). AuditsAfter a named out (step ∷ history) (datagrams_of (x ∷ carried))) (sym c.take-in-Ok-Datagram.ensures.audit) goes.5.1;
                  notes = notes.0.0;
                  trails = subst (λ (j : Judging). AreTrailsKept c.take-in-Ok-Datagram.new.self.trails j named out (x ∷ carried)) judged notes.1.0.0;
                  texts = notes.1.0.1;
                  beside = subst (λ (l : List Mark). AreMarksKept c.take-in-Ok-Datagram.new.self.unplaced c.take-in-Ok-Datagram.new.self.trails out l) (sym notes.0.1) notes.1.1;
                };
              },
              inr (
                step,
                refl,
                frame_of step history c.next_into.new.event c.take-in-Ok-Datagram.new.event c.take-in-Ok-Datagram.ensures.frame goes.2,
                inr (x, refl, ap (λ (f : FrameState). f.number) (sym c.take-in-Ok-Datagram.ensures.frame)),
              ),
            ),
          )),
    )

pub returns-in-Err-Recording-clause-goes_on : goal.returns-in-Err-Recording-clause-goes_on
returns-in-Err-Recording-clause-goes_on g c named out bytes history carried s stands is =
    let read = c.in-Err-Recording.ensures.continues named out bytes history (datagrams_of carried) stands is.kept.audit in
    let goes = subst (λ (n : AuditFault). GoesOn (λ frames datagrams. StandsFor c.next_into.new.recording (bytes ++ read.0) frames × AuditsAfter c.next_into.new.self named out frames datagrams) named history (datagrams_of carried) c.next_into.new.event (Err n)) c.in-Err-Recording.field-0-is read.2 in (
      read.0,
      read.1,
      stops_so
          (λ frames datagrams noticed. StandsFor c.next_into.new.recording (bytes ++ read.0) frames
          × (IsReadAfter c.stop.new.self named out frames datagrams noticed × AddsFrame history carried c.next_into.new.event frames datagrams))
          history carried s c.stop.result c.stop.ensures.over
          (always c.stop.result (
            goes.0,
            (
              record {
                noticed = is.noticed;
                kept = record {
                  audit = subst (λ (a : RecordingAudit). AuditsAfter a named out history (datagrams_of carried)) (sym c.stop.ensures.audit) goes.1;
                  notes = c.stop.ensures.notes s is.kept.notes;
                  trails = subst (λ (m : BTreeMap ℕ Trail). AreTrailsKept m c.stop.new.self.audit.judge.judging named out carried) (sym c.stop.ensures.trails)
                      (subst (λ (j : Judging). AreTrailsKept c.args.self.now.trails j named out carried) (sym (ap (λ (a : RecordingAudit). a.judge.judging) c.stop.ensures.audit ∙ c.in-Err-Recording.ensures.judging)) is.kept.trails);
                  texts = subst (λ (k : KeptTexts). AreTextsKept k named carried) (sym c.stop.ensures.kept) is.kept.texts;
                  beside = subst (λ (u : Unplaced). AreMarksKept u c.stop.new.self.trails out s.beside) (sym c.stop.ensures.unplaced)
                      (subst (λ (m : BTreeMap ℕ Trail). AreMarksKept c.args.self.now.unplaced m out s.beside) (sym c.stop.ensures.trails) is.kept.beside);
                };
              },
              inl (refl, refl),
            ),
          )),
    )

pub returns-in-Err-Judges-clause-goes_on : goal.returns-in-Err-Judges-clause-goes_on
returns-in-Err-Judges-clause-goes_on g c named out bytes history carried s stands is =
    let read = c.in-Err-Judges.ensures.continues named out bytes history (datagrams_of carried) stands is.kept.audit in (
      read.0,
      read.1,
      tt,
    )

pub returns-in-Ok-Nothing-clause-wants : goal.returns-in-Ok-Nothing-clause-wants
returns-in-Ok-Nothing-clause-wants g c named out bytes history carried s stands is =
    let read = c.in-Ok-Nothing.ensures.continues named out bytes history (datagrams_of carried) stands is.kept.audit in
    let goes = subst (λ (n : NextFrame). GoesOn (λ frames datagrams. StandsFor c.next_into.new.recording (bytes ++ read.0) frames × AuditsAfter c.next_into.new.self named out frames datagrams) named history (datagrams_of carried) c.next_into.new.event (Ok n)) c.in-Ok-Nothing.field-0-is read.2 in
    always_err c.take.result (inr (goes.0 ∷ history, carried, inl refl, subst (λ (a : RecordingAudit). AuditsAfter a named out (goes.0 ∷ history) (datagrams_of carried)) (sym c.take.ensures.audit) goes.2.1))

pub returns-in-Ok-Datagram-clause-wants : goal.returns-in-Ok-Datagram-clause-wants
returns-in-Ok-Datagram-clause-wants g c named out bytes history carried s stands is =
    let read = c.in-Ok-Datagram.ensures.continues named out bytes history (datagrams_of carried) stands is.kept.audit in
    let goes = subst (λ (n : NextFrame). GoesOn (λ frames datagrams. StandsFor c.next_into.new.recording (bytes ++ read.0) frames × AuditsAfter c.next_into.new.self named out frames datagrams) named history (datagrams_of carried) c.next_into.new.event (Ok n)) c.in-Ok-Datagram.field-0-is read.2 in
    let x : Carried = carry c.next_into.new.event goes.1 in
    always_err c.take-in-Ok-Datagram.result (inr (goes.0 ∷ history, x ∷ carried, inr (x, refl), subst (λ (a : RecordingAudit). AuditsAfter a named out (goes.0 ∷ history) (datagrams_of (x ∷ carried))) (sym c.take-in-Ok-Datagram.ensures.audit) goes.5.1))

pub returns-in-Err-Recording-clause-wants : goal.returns-in-Err-Recording-clause-wants
returns-in-Err-Recording-clause-wants g c named out bytes history carried s stands is =
    let read = c.in-Err-Recording.ensures.continues named out bytes history (datagrams_of carried) stands is.kept.audit in
    let goes = subst (λ (n : AuditFault). GoesOn (λ frames datagrams. StandsFor c.next_into.new.recording (bytes ++ read.0) frames × AuditsAfter c.next_into.new.self named out frames datagrams) named history (datagrams_of carried) c.next_into.new.event (Err n)) c.in-Err-Recording.field-0-is read.2 in
    always_err c.stop.result (inr (history, carried, inl refl, subst (λ (a : RecordingAudit). AuditsAfter a named out history (datagrams_of carried)) (sym c.stop.ensures.audit) goes.1))

pub returns-in-Err-Judges-clause-wants : goal.returns-in-Err-Judges-clause-wants
returns-in-Err-Judges-clause-wants g c named out bytes history carried s stands is = inl (c.in-Err-Judges.ensures.fails c.in-Err-Judges.fault (ap Err c.in-Err-Judges.field-0-is))

pub returns-in-Ok-End-clause-at_end : goal.returns-in-Ok-End-clause-at_end
returns-in-Ok-End-clause-at_end g c began is over = c.in-Ok-End.ensures.at_end began (ap Ok c.in-Ok-End.field-0-is)

pub returns-in-Err-Recording-clause-at_end : goal.returns-in-Err-Recording-clause-at_end
returns-in-Err-Recording-clause-at_end g c began is over =
    let failed = c.in-Err-Recording.ensures.stops c.in-Err-Recording.fault (ap Err c.in-Err-Recording.field-0-is) in
    absurd (cc)

pub returns-in-Ok-Nothing-clause-goes : goal.returns-in-Ok-Nothing-clause-goes
returns-in-Ok-Nothing-clause-goes g c goes = c.in-Ok-Nothing.ensures.goes Nothing (ap Ok c.in-Ok-Nothing.field-0-is) (λ e. absurd (cc))

pub returns-in-Ok-Datagram-clause-goes : goal.returns-in-Ok-Datagram-clause-goes
returns-in-Ok-Datagram-clause-goes g c goes = c.in-Ok-Datagram.ensures.goes (Datagram c.in-Ok-Datagram.found) (ap Ok c.in-Ok-Datagram.field-0-is) (λ e. absurd (cc))

pub returns-in-Ok-Nothing-clause-many : goal.returns-in-Ok-Nothing-clause-many
returns-in-Ok-Nothing-clause-many g c named out history carried s is many = absurd (c.take.ensures.memory many)

pub returns-in-Ok-Datagram-clause-many : goal.returns-in-Ok-Datagram-clause-many
returns-in-Ok-Datagram-clause-many g c named out history carried s is many = absurd (c.take-in-Ok-Datagram.ensures.memory many)

pub returns-in-Err-Recording-clause-many : goal.returns-in-Err-Recording-clause-many
returns-in-Err-Recording-clause-many g c named out history carried s is many = absurd (c.stop.ensures.memory many)

pub returns-in-Err-Judges-clause-many : goal.returns-in-Err-Judges-clause-many
returns-in-Err-Judges-clause-many g c named out history carried s is many =
    let told : c.in-Err-Judges.fault ≡ AttributionFault.TooMany = cc in
    many_frames history (datagrams_of carried) is.kept.audit.frames
    (c.in-Err-Judges.ensures.many named out history (datagrams_of carried) is.kept.audit (ap Err (c.in-Err-Judges.field-0-is ∙ ap Judges told)))
