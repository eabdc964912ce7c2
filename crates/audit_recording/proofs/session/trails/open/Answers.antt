use Rattle.std.specs.declared.alloc.AllocError.{AllocError}
use Rattle.std.proofs.Common.{◌≡◌, ◌<◌, ◌∷◌, ℕ, arith, [], Option, None, Result, refl, sym, ap, subst, ◌∙◌, IfOk, OnOk}
use Rattle.audit_recording.specs.Losses.Noted.Event.{Asks}
use Rattle.audit_recording.specs.Blame.Frames.{framed, whole_of}
use Rattle.audit_recording.specs.Blame.Kept.{IsBlameBetween, IsTrailOf}
use Rattle.audit_recording.specs.declared.blame.blame.Blame.{Blame}
use Rattle.audit_recording.specs.declared.blame.trail.Trail.{Trail}
use Rattle.audit_recording.specs.Session.Noted.{AreNotesOf, Noticed, noting}
use Rattle.audit_recording.specs.declared.judges.judging.Judging.TheVariants.{Nowhere}
use Rattle.audit_recording.specs.Judges.{IsNew}
use Rattle.audit_recording.specs.Losses.Kept.{lesser}
use Rattle.audit_recording.specs.Reasons.Unplaced.{IsUnplacedAfter, after, latest_at}
use Rattle.audit_recording.specs.Reasons.Unplaced.Event.{Opens}
use Rattle.audit_recording.specs.Session.Beside.{AreMarksKept, leaving_out_some}
use Rattle.audit_recording.specs.Session.Beside.Mark.{Begins}
use Rattle.audit_recording.specs.Session.Discards.{before_opening, newest_at}
use Rattle.audit_recording.specs.Blame.Frames.{Framed, datagrams_of, framed_after}
use Rattle.audit_recording.proofs.JudgesLemmas.Keeping.{new_before}
use Rattle.audit_recording.proofs.ReasonsLemmas.Unplaced.{on_ok}
use Rattle.audit_recording.proofs.SessionLemmas.Beside.{begins_here, begins_kept, latest_noted, left_some, some_discarded, some_time, some_transfer}
use Rattle.audit_recording.proofs.SessionLemmas.Recording.{always}
use Rattle.audit_recording.proofs.SessionLemmas.Trails.{one_begun, own_discarding}
use Rattle.audit_recording.proofs.session.trails.open.Goals as goal

pub returns-clause-notes : goal.returns-clause-notes
returns-clause-notes c s are later =
    let transfer = (c.new-trail.ensures.stands Nowhere [] [] refl).transfer in
    let first = c.new-trail.ensures.first in
    let before : s.last < c.new-trail.result.first = omega arith in
    subst (λ (t : Noticed). OnOk c.ask-asked.result (AreNotesOf c.ask-asked.new.self t)) (λ i. noting (Asks ((transfer i).client.address) (first i)) (first i) s) (c.ask-asked.ensures.stands s are before)

pub returns-clause-trails : goal.returns-clause-trails
returns-clause-trails c judging named out d carried opens passes handed kept =
    let x = c.args.transfer in
    let told = c.open.ensures.only in
    always c.ask-asked.result
    (one_begun c.args.trails.now c.insert.new.self c.open.new.trail x judging named out d carried (sym opens) handed
    (λ unheard. (
      subst (λ (t : Trail). IsTrailOf t judging x named carried) (sym told.1)
          (own_discarding c.note_later.new.trail told.0 judging x named carried (c.note_later.ensures.stands judging x named carried (c.new-trail.ensures.stands judging named carried unheard))),
      subst (λ (b : Blame). IsBlameBetween b judging x (whole_of named carried) (framed named carried)) (sym (ap (λ (t : Trail). t.blame) told.1 ∙ c.note_later.ensures.blame)) (c.new-trail.ensures.between judging named carried unheard),
    )) (
      sym passes.frame ∙ sym (ap (λ (t : Trail). t.first) told.1 ∙ c.note_later.ensures.first ∙ c.new-trail.ensures.first),
      sym passes.payload ∙ sym c.in_ok-payload.ensures.items ∙ sym (ap (λ (t : Trail). t.request.items) told.1 ∙ ap (λ r. r.items) (c.note_later.ensures.request ∙ c.new-trail.ensures.request)),
    )
    c.in_ok-insert.ensures.updates.0 kept)

pub returns-clause-marks : goal.returns-clause-marks
returns-clause-marks c named out d carried s marks opens handed are later gone kept =
    let x = c.args.transfer in
    let f : Framed = framed_after named carried d in
    let now = c.time_of-time.result in
    let time = c.time_of-time.ensures s.times are.clock in
    let first = c.new-trail.ensures.first in
    let before : s.last < c.new-trail.result.first = omega arith in
    let unknown : IsNew x.number out (whole_of named carried) = new_before named out (datagrams_of carried) f.placed.moment d.datagram x handed (sym opens) in
    let w = c.new-trail.result in
    let frame = c.in_ok-later.field-0 in
    let opened = c.in_ok-later.was in
    let v : c.note_later.new.trail ≡ leaving_out_some frame w = c.note_later.ensures.is frame opened in
    let left : frame ≡ after now (latest_at x.client kept.history) =
    subst (λ (r : Result (Option ℕ) AllocError). IfOk r (λ o. o ≡ after now (latest_at x.client kept.history))) opened (c.open-later.ensures.frame kept.history kept.stands) in
    let stands : IsUnplacedAfter c.open-later.new.self (Opens x.client x.number ∷ kept.history) =
    subst (λ (r : Result (Option ℕ) AllocError). OnOk r (IsUnplacedAfter c.open-later.new.self (Opens x.client x.number ∷ kept.history))) opened (c.open-later.ensures.stands kept.history kept.stands) in
    let client : c.note_later.new.trail.transfer ≡ x = ap (λ (t : Trail). t.transfer) v ∙ some_transfer frame w ∙ c.new-trail.ensures.transfer in
    let none : c.note_later.new.trail.discarded ≡ None = ap (λ (t : Trail). t.discarded) v ∙ some_discarded frame w ∙ c.new-trail.ensures.discarded in
    subst (λ (k : ℕ). OnOk c.ask-asked.result (AreMarksKept c.open-later.new.self c.insert.new.self out (Begins x k ∷ marks))) time
    (on_ok c.ask-asked.result
    (λ (after_it : AreNotesOf c.ask-asked.new.self (noting (Asks w.transfer.client.address w.first) w.first s)).
    let told = c.open.ensures.is s.gone after_it.discards in
    let were = sym gone in
    begins_kept c.args.unplaced.now c.open-later.new.self c.args.trails.now c.insert.new.self out marks x now c.open.new.trail kept unknown.1 stands
    (begins_here x now marks c.open.new.trail
    (ap (λ (t : Trail). t.transfer) told ∙ client)
    (ap (λ (t : Trail). t.last_time) told ∙ ap (λ (t : Trail). t.last_time) v ∙ some_time frame w ∙ c.new-trail.ensures.last_time)
    (ap (λ (t : Trail). t.left_out) told ∙ ap (λ (t : Trail). t.left_out) v ∙ left_some frame w c.new-trail.ensures.left_out ∙ left
    ∙ ap (after now) (latest_noted c.args.unplaced.now c.args.trails.now out marks kept x.client))
    (ap (λ (t : Trail). t.discarded) told ∙ (λ i. lesser (none i) (before_opening now (newest_at (client i).client (were i))))))
    c.in_ok-insert.ensures.updates.0)
    (c.ask-asked.ensures.stands s are before))
