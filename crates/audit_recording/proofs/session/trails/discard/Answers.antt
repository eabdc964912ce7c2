use Rattle.std.proofs.Common.{◌≡◌, ◌∷◌, ap, subst, ◌∙◌, unwrap_or}
use Rattle.audit_recording.specs.Reasons.Clock.{last_of}
use Rattle.audit_recording.specs.Session.Discards.{Gone}
use Rattle.audit_recording.specs.Session.Noted.{AreNotesOf, Noticed, finding, going, sharers_of}
use Rattle.audit_recording.specs.Session.Recording.{gone_by, reached_by}
use Rattle.audit_recording.specs.Session.Beside.{AreMarksKept}
use Rattle.audit_recording.specs.Session.Beside.Mark.{Discards}
use Rattle.audit_recording.proofs.SessionLemmas.Beside.{discards_kept}
use Rattle.audit_recording.proofs.SessionLemmas.Recording.{reached_is}
use Rattle.audit_recording.proofs.session.trails.discard.Goals as goal

pub returns-clause-notes : goal.returns-clause-notes
returns-clause-notes c s are =
    let event = c.args.event.now in
    let whole : Noticed = finding (reached_by s.times) (sharers_of event) s in
    let found : AreNotesOf c.find.new.self whole =
    subst (λ (t : Noticed). AreNotesOf c.find.new.self t) (λ i. finding (reached_is c.args.notes.now.clock s.times are.clock i) (c.sharers.ensures i) s) (c.in_ok-find.ensures.stands s are) in
    let time = c.time_of-time.ensures s.times found.clock ∙ ap (λ t. unwrap_or t (last_of s.times)) c.time.ensures in
    let g : Gone = record { source = c.party_of.result.end; target = c.party_of-2.result.end; frame = c.number-frame.result; time = c.time_of-time.result } in
    let same : g ≡ gone_by event c.args.datagram.now s.times = λ i. record { source = c.party_of.ensures.end i; target = c.party_of-2.ensures.end i; frame = c.number-frame.ensures i; time = time i } in
    subst (λ (h : Gone). AreNotesOf c.discard.new.self (going h whole)) same (c.in_ok-discard.ensures.stands whole found)

pub returns-clause-trails : goal.returns-clause-trails
returns-clause-trails c judging named out carried kept = c.discard_at-2.ensures.trails judging named out carried (c.discard_at.ensures.trails judging named out carried kept)

pub returns-clause-marks : goal.returns-clause-marks
returns-clause-marks c s out marks are kept =
    let event = c.args.event.now in
    let whole : Noticed = finding (reached_by s.times) (sharers_of event) s in
    let found : AreNotesOf c.find.new.self whole =
    subst (λ (t : Noticed). AreNotesOf c.find.new.self t) (λ i. finding (reached_is c.args.notes.now.clock s.times are.clock i) (c.sharers.ensures i) s) (c.in_ok-find.ensures.stands s are) in
    let time = c.time_of-time.ensures s.times found.clock ∙ ap (λ t. unwrap_or t (last_of s.times)) c.time.ensures in
    let g : Gone = record { source = c.party_of.result.end; target = c.party_of-2.result.end; frame = c.number-frame.result; time = c.time_of-time.result } in
    let same : g ≡ gone_by event c.args.datagram.now s.times = λ i. record { source = c.party_of.ensures.end i; target = c.party_of-2.ensures.end i; frame = c.number-frame.ensures i; time = time i } in
    subst (λ (h : Gone). AreMarksKept c.args.unplaced.now c.discard_at-2.new.trails out (Discards h ∷ marks)) same
    (discards_kept c.args.unplaced.now c.args.trails.now c.discard_at.new.trails c.discard_at-2.new.trails out marks g c.newest.result c.newest-2.result kept
    (c.newest.ensures kept.history kept.stands) (c.newest-2.ensures kept.history kept.stands) c.discard_at.ensures.each c.discard_at-2.ensures.each)
