use Rattle.std.proofs.Common.{◌≡◌, ◌==◌, ◌∷◌, ℕ, Some, None, true, true≢false, is_some, inl, inr, sym, ap, subst, ◌∙◌}
use Rattle.std.specs.BTreeMap.{BTreeMap}
use Rattle.audit_flows.specs.Transfers.{is_about}
use Rattle.audit_flows.specs.{Place, Transfer}
use Rattle.audit_views.specs.Parties.{host_name}
use Rattle.audit_recording.specs.Blame.Frames.{datagrams_of, framed_after, whole_of}
use Rattle.audit_recording.specs.Blame.Kept.{is_about_it}
use Rattle.audit_recording.specs.Judges.{IsWatching}
use Rattle.audit_recording.specs.Session.Trails.{AreTrailsKept, IsTrailKept}
use Rattle.audit_recording.specs.declared.blame.trail.Trail.{Trail}
use Rattle.audit_recording.specs.Session.Beside.{AreMarksKept}
use Rattle.audit_recording.specs.Session.Recording.{joining}
use Rattle.audit_recording.proofs.JudgesLemmas.Keeping.{is_itself}
use Rattle.audit_recording.proofs.SessionLemmas.Marking.{joined_nowhere, joined_one}
use Rattle.audit_recording.proofs.SessionLemmas.Recording.{always}
use Rattle.audit_recording.proofs.SessionLemmas.Trails.{begins_there, held_there, none_handed, number_there, on_ok_both, one_handed}
use Rattle.audit_recording.proofs.session.trails.hand.Goals as goal

pub returns-in-Some-watched-clause-trails : goal.returns-in-Some-watched-clause-trails
returns-in-Some-watched-clause-trails c named out history d carried about at passes audit begun =
    let judging = c.args.audit.now.judge.judging in
    let t = c.in-Some.trail.now in
    let u = c.take.new.self in
    let w = c.in-Some-watched.watched.now in
    let was = sym c.in-Some.ensures.value in
    let updates = (c.get_mut.follows.holds u).3 (ap is_some was) in
    let old = c.args.trails.now in
    let new = c.get_mut.follows.lender u in
    let held = held_there old new c.args.number t u was updates.0 judging named out d carried begun in
    let number : t.transfer.number ≡ c.args.number = number_there old new c.args.number t u was updates.0 judging named out d carried begun in
    let watched = c.in-Some-watched.ensures named out history (datagrams_of (d ∷ carried)) audit in
    let both : Some w.transfer ≡ Some t.transfer = sym watched.0 ∙ held.0 in
    let same : w.transfer ≡ t.transfer = cc in
    let watching = subst (λ (y : Transfer). IsWatching w judging y host_name (whole_of named (d ∷ carried))) same watched.1 in
    let is : is_about_it t.transfer.number (framed_after named carried d) ≡ true = about t.transfer.number ∙ ap (λ k. c.args.number == k) number ∙ is_itself c.args.number in
    on_ok_both c.take.result
    (λ own between. one_handed old new c.args.number t u was updates.0 judging named out d carried begun about c.take.ensures.first c.take.ensures.request own between)
    (c.take.ensures.stands judging t.transfer named d carried held.2.own passes at.0 at.1 is (λ opens. (begins_there old new c.args.number t u was updates.0 judging named out d carried begun opens).0) watching)
    (c.take.ensures.between judging t.transfer named d carried held.2.own held.2.between passes at.0 at.1 is watching)

pub returns-in-None-watched-clause-trails : goal.returns-in-None-watched-clause-trails
returns-in-None-watched-clause-trails c named out history d carried about at passes audit begun =
    let t = c.in-Some.trail.now in
    let held = subst (IsTrailKept c.args.audit.now.judge.judging named out (whole_of named (d ∷ carried)) carried c.args.number) (sym c.in-Some.ensures.value) (begun c.args.number).0 in
    elim (c.in-None-watched.ensures named out history (datagrams_of (d ∷ carried)) audit) [
      | inl none ↦ (let both : Some t.transfer ≡ None = sym held.0 ∙ none in absurd (cc))
      | inr gone ↦ absurd (true≢false (sym gone ∙ held.1))
    ]

pub returns-in-None-clause-trails : goal.returns-in-None-clause-trails
returns-in-None-clause-trails c named out history d carried about at passes audit begun =
    subst (λ (m : BTreeMap ℕ Trail). AreTrailsKept m c.args.audit.now.judge.judging named out (d ∷ carried)) (sym c.get_mut.follows.holds-at-none)
    (none_handed c.args.trails.now c.args.number c.args.audit.now.judge.judging named out d carried about (sym c.in-None.ensures.value) begun)

pub returns-in-Some-watched-clause-marks : goal.returns-in-Some-watched-clause-marks
returns-in-Some-watched-clause-marks c named out history d carried unplaced marks about at passes audit begun kept =
    let t = c.in-Some.trail.now in
    let u = c.take.new.self in
    let was = sym c.in-Some.ensures.value in
    let updates = (c.get_mut.follows.holds u).3 (ap is_some was) in
    let p = (framed_after named carried d).placed in
    let place = c.args.found.now.place in
    let is = subst (λ (q : Place). is_about c.args.number (record p { place = q }) ≡ true) (sym at.0) (about c.args.number ∙ is_itself c.args.number) in
    always c.take.result
    (subst (λ o. AreMarksKept unplaced (c.get_mut.follows.lender u) out (joining place o marks)) passes.time
    (joined_one unplaced c.args.trails.now (c.get_mut.follows.lender u) out marks c.args.number place p c.args.passing.now.time t u was updates.0 is
    c.take.ensures.transfer c.take.ensures.left_out c.take.ensures.discarded c.take.ensures.own_time c.take.ensures.same_time kept))

pub returns-in-None-watched-clause-marks : goal.returns-in-None-watched-clause-marks
returns-in-None-watched-clause-marks c named out history d carried unplaced marks about at passes audit begun kept =
    let t = c.in-Some.trail.now in
    let held = subst (IsTrailKept c.args.audit.now.judge.judging named out (whole_of named (d ∷ carried)) carried c.args.number) (sym c.in-Some.ensures.value) (begun c.args.number).0 in
    elim (c.in-None-watched.ensures named out history (datagrams_of (d ∷ carried)) audit) [
      | inl none ↦ (let both : Some t.transfer ≡ None = sym held.0 ∙ none in absurd (cc))
      | inr gone ↦ absurd (true≢false (sym gone ∙ held.1))
    ]

pub returns-in-None-clause-marks : goal.returns-in-None-clause-marks
returns-in-None-clause-marks c named out history d carried unplaced marks about at passes audit begun kept =
    let p = (framed_after named carried d).placed in
    let place = c.args.found.now.place in
    let is = subst (λ (q : Place). is_about c.args.number (record p { place = q }) ≡ true) (sym at.0) (about c.args.number ∙ is_itself c.args.number) in
    subst (λ (m : BTreeMap ℕ Trail). AreMarksKept unplaced m out (joining place d.time marks)) (sym c.get_mut.follows.holds-at-none)
    (joined_nowhere unplaced c.args.trails.now out marks c.args.number place p d.time (sym c.in-None.ensures.value) is kept)
