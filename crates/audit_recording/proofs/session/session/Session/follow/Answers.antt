use Rattle.audit_recording.proofs.SessionLemmas.Recording.{always}
use Rattle.audit_recording.proofs.session.session.Session.follow.Goals as goal

pub returns-clause-trails : goal.returns-clause-trails
returns-clause-trails c named out history d carried at passes audit begun =
    always c.set_aside.result (c.in_ok-hand_over.ensures.trails named out history d carried at passes audit begun)

pub returns-clause-marks : goal.returns-clause-marks
returns-clause-marks c named out history d carried times marks at passes audit begun clock kept =
    always c.set_aside.result (c.in_ok-hand_over.ensures.marks named out history d carried times marks at passes audit begun clock kept)
