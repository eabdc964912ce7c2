use Rattle.std.proofs.Common.{◌≡◌, ◌∷◌, ℕ, List, OnOk, false, true, sym, subst, ◌∙◌}
use Rattle.audit_flows.specs.Transfers.{is_about}
use Rattle.audit_flows.specs.{Place}
use Rattle.audit_recording.specs.Blame.Frames.{framed_after}
use Rattle.audit_recording.specs.Session.Beside.{AreMarksKept, Mark}
use Rattle.audit_recording.specs.Session.Recording.{joining, straying}
use Rattle.audit_recording.proofs.JudgesLemmas.Keeping.{is_itself}
use Rattle.audit_recording.proofs.SessionLemmas.Marking.{joining_none, straying_about}
use Rattle.audit_recording.proofs.SessionLemmas.Recording.{always}
use Rattle.audit_recording.proofs.SessionLemmas.Trails.{all_passed_by}
use Rattle.audit_recording.proofs.session.trails.hand_over.Goals as goal

pub returns-in-Some-clause-trails : goal.returns-in-Some-clause-trails
returns-in-Some-clause-trails c named out history d carried at passes audit begun =
    c.hand.ensures.trails named out history d carried (λ n. c.in-Some.ensures (framed_after named carried d).placed at.0 n) at passes audit begun

pub returns-in-None-clause-trails : goal.returns-in-None-clause-trails
returns-in-None-clause-trails c named out history d carried at passes audit begun =
    let judging = c.args.audit.now.judge.judging in
    always c.leave_out.result
    (c.leave_out.ensures.trails judging named out (d ∷ carried)
    (all_passed_by c.args.trails.now judging named out d carried (λ n. c.in-None.ensures (framed_after named carried d).placed at.0 n) begun))

pub returns-in-Some-clause-marks : goal.returns-in-Some-clause-marks
returns-in-Some-clause-marks c named out history d carried times marks at passes audit begun clock kept =
    let p = (framed_after named carried d).placed in
    let place = c.args.found.now.place in
    let about = c.in-Some.ensures p at.0 c.in-Some.number ∙ is_itself c.in-Some.number in
    let same = straying_about c.in-Some.number (record p { place = place }) d times (joining place d.time marks) (subst (λ (q : Place). is_about c.in-Some.number (record p { place = q }) ≡ true) (sym at.0) about) in
    subst (λ (l : List Mark). OnOk c.hand.result (AreMarksKept c.args.unplaced.now c.hand.new.trails out l)) (sym same)
    (c.hand.ensures.marks named out history d carried c.args.unplaced.now marks (λ n. c.in-Some.ensures p at.0 n) at passes audit begun kept)

pub returns-in-None-clause-marks : goal.returns-in-None-clause-marks
returns-in-None-clause-marks c named out history d carried times marks at passes audit begun clock kept =
    let p = (framed_after named carried d).placed in
    let place = c.args.found.now.place in
    let none : (n : ℕ) → is_about n (record p { place = place }) ≡ false = λ n. subst (λ (q : Place). is_about n (record p { place = q }) ≡ false) (sym at.0) (c.in-None.ensures p at.0 n) in
    subst (λ (l : List Mark). OnOk c.leave_out.result (AreMarksKept c.leave_out.new.unplaced c.leave_out.new.trails out (straying place d times l))) (sym (joining_none (record p { place = place }) d.time marks none))
    (c.leave_out.ensures.marks d out times marks passes clock kept)
