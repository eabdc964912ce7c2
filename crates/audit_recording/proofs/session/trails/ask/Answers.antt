use Rattle.std.proofs.Common.{◌≡◌, false, refl, sym, subst, unwrap_or, ◌∙◌, OnOk}
use Rattle.audit_flows.specs.{Place}
use Rattle.audit_flows.specs.Lines.{Placed}
use Rattle.audit_flows.specs.Transfers.{opened_it}
use Rattle.audit_recording.specs.Blame.Frames.{framed_after}
use Rattle.audit_recording.specs.Session.Noted.{AreNotesOf}
use Rattle.audit_recording.specs.Reasons.Clock.{last_of}
use Rattle.audit_recording.specs.Session.Beside.{AreMarksKept}
use Rattle.audit_recording.specs.Session.Recording.{asking, beginning}
use Rattle.audit_recording.proofs.SessionLemmas.Trails.{none_begun}
use Rattle.audit_recording.proofs.session.trails.ask.Goals as goal

pub returns-in-Opens-clause-notes : goal.returns-in-Opens-clause-notes
returns-in-Opens-clause-notes c s are later =
    subst (λ (q : Place). OnOk c.open.result (AreNotesOf c.open.new.notes (asking q c.args.request.now.frame s))) (sym c.in-Opens.is) (c.open.ensures.notes s are later)

pub returns-in-Opens-clause-trails : goal.returns-in-Opens-clause-trails
returns-in-Opens-clause-trails c judging named out d carried at passes handed kept = c.open.ensures.trails judging named out d carried (sym c.in-Opens.is ∙ at) passes handed kept

pub returns-in-Repeats-clause-notes : goal.returns-in-Repeats-clause-notes
returns-in-Repeats-clause-notes c s are later = subst (λ (q : Place). AreNotesOf c.args.notes.now (asking q c.args.request.now.frame s)) (sym c.in-Repeats.is) are

pub returns-in-Repeats-clause-trails : goal.returns-in-Repeats-clause-trails
returns-in-Repeats-clause-trails c judging named out d carried at passes handed kept =
    let p : Placed = (framed_after named carried d).placed in
    none_begun c.args.trails.now judging named out d carried (λ n. subst (λ (q : Place). opened_it n (record p { place = q }) ≡ false) (sym c.in-Repeats.is ∙ at) refl) kept

pub returns-in-Talks-clause-notes : goal.returns-in-Talks-clause-notes
returns-in-Talks-clause-notes c s are later = subst (λ (q : Place). AreNotesOf c.args.notes.now (asking q c.args.request.now.frame s)) (sym c.in-Talks.is) are

pub returns-in-Talks-clause-trails : goal.returns-in-Talks-clause-trails
returns-in-Talks-clause-trails c judging named out d carried at passes handed kept =
    let p : Placed = (framed_after named carried d).placed in
    none_begun c.args.trails.now judging named out d carried (λ n. subst (λ (q : Place). opened_it n (record p { place = q }) ≡ false) (sym c.in-Talks.is ∙ at) refl) kept

pub returns-in-Apart-clause-notes : goal.returns-in-Apart-clause-notes
returns-in-Apart-clause-notes c s are later = subst (λ (q : Place). AreNotesOf c.args.notes.now (asking q c.args.request.now.frame s)) (sym c.in-Apart.is) are

pub returns-in-Apart-clause-trails : goal.returns-in-Apart-clause-trails
returns-in-Apart-clause-trails c judging named out d carried at passes handed kept =
    let p : Placed = (framed_after named carried d).placed in
    none_begun c.args.trails.now judging named out d carried (λ n. subst (λ (q : Place). opened_it n (record p { place = q }) ≡ false) (sym c.in-Apart.is ∙ at) refl) kept

pub returns-in-Beside-clause-notes : goal.returns-in-Beside-clause-notes
returns-in-Beside-clause-notes c s are later = subst (λ (q : Place). AreNotesOf c.args.notes.now (asking q c.args.request.now.frame s)) (sym c.in-Beside.is) are

pub returns-in-Beside-clause-trails : goal.returns-in-Beside-clause-trails
returns-in-Beside-clause-trails c judging named out d carried at passes handed kept =
    let p : Placed = (framed_after named carried d).placed in
    none_begun c.args.trails.now judging named out d carried (λ n. subst (λ (q : Place). opened_it n (record p { place = q }) ≡ false) (sym c.in-Beside.is ∙ at) refl) kept

pub returns-in-Nowhere-clause-notes : goal.returns-in-Nowhere-clause-notes
returns-in-Nowhere-clause-notes c s are later = subst (λ (q : Place). AreNotesOf c.args.notes.now (asking q c.args.request.now.frame s)) (sym c.in-Nowhere.is) are

pub returns-in-Nowhere-clause-trails : goal.returns-in-Nowhere-clause-trails
returns-in-Nowhere-clause-trails c judging named out d carried at passes handed kept =
    let p : Placed = (framed_after named carried d).placed in
    none_begun c.args.trails.now judging named out d carried (λ n. subst (λ (q : Place). opened_it n (record p { place = q }) ≡ false) (sym c.in-Nowhere.is ∙ at) refl) kept

pub returns-in-Opens-clause-marks : goal.returns-in-Opens-clause-marks
returns-in-Opens-clause-marks c named out d carried s marks at handed are later gone kept =
    subst (λ (q : Place). OnOk c.open.result (AreMarksKept c.open.new.unplaced c.open.new.trails out (beginning q (unwrap_or c.args.request.now.time (last_of s.times)) marks))) (sym c.in-Opens.is)
    (c.open.ensures.marks named out d carried s marks (sym c.in-Opens.is ∙ at) handed are later gone kept)

pub returns-in-Repeats-clause-marks : goal.returns-in-Repeats-clause-marks
returns-in-Repeats-clause-marks c named out d carried s marks at handed are later gone kept =
    subst (λ (q : Place). AreMarksKept c.args.unplaced.now c.args.trails.now out (beginning q (unwrap_or c.args.request.now.time (last_of s.times)) marks)) (sym c.in-Repeats.is) kept

pub returns-in-Talks-clause-marks : goal.returns-in-Talks-clause-marks
returns-in-Talks-clause-marks c named out d carried s marks at handed are later gone kept =
    subst (λ (q : Place). AreMarksKept c.args.unplaced.now c.args.trails.now out (beginning q (unwrap_or c.args.request.now.time (last_of s.times)) marks)) (sym c.in-Talks.is) kept

pub returns-in-Apart-clause-marks : goal.returns-in-Apart-clause-marks
returns-in-Apart-clause-marks c named out d carried s marks at handed are later gone kept =
    subst (λ (q : Place). AreMarksKept c.args.unplaced.now c.args.trails.now out (beginning q (unwrap_or c.args.request.now.time (last_of s.times)) marks)) (sym c.in-Apart.is) kept

pub returns-in-Beside-clause-marks : goal.returns-in-Beside-clause-marks
returns-in-Beside-clause-marks c named out d carried s marks at handed are later gone kept =
    subst (λ (q : Place). AreMarksKept c.args.unplaced.now c.args.trails.now out (beginning q (unwrap_or c.args.request.now.time (last_of s.times)) marks)) (sym c.in-Beside.is) kept

pub returns-in-Nowhere-clause-marks : goal.returns-in-Nowhere-clause-marks
returns-in-Nowhere-clause-marks c named out d carried s marks at handed are later gone kept =
    subst (λ (q : Place). AreMarksKept c.args.unplaced.now c.args.trails.now out (beginning q (unwrap_or c.args.request.now.time (last_of s.times)) marks)) (sym c.in-Nowhere.is) kept
