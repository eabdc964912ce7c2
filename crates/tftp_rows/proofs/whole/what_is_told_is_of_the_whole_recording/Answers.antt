use Rattle.std.proofs.Common.{◌≡◌, ℕ, List, None, [], refl, subst, sym}
use Rattle.net_udp.specs.Recording.{RecordingState, RefusedTells, StandsFor, Step, waiting}
use Rattle.audit_recording.specs.Session.Noted.{frames_in, giving_up, told_in}
use Rattle.audit_recording.specs.Session.Told.{AreEachOnce, IsLostAlone}
use Rattle.audit_recording.proofs.SessionLemmas.Lost.{lost_alone, lost_once}
use Rattle.tftp_rows.specs.Whole.{once_ended, so_far}
use Rattle.tftp_rows.proofs.FinalLemmas.{are_of, of_later}
use Rattle.tftp_rows.proofs.LackingLemmas.{are_lacking}
use Rattle.tftp_rows.proofs.BesideLemmas.{are_beside}
use Rattle.tftp_rows.proofs.whole.what_is_told_is_of_the_whole_recording.Goals as goal

pub returns-clause-over : goal.returns-clause-over
returns-clause-over g c j judging x named carried later s opens of over = of_later j judging x named carried later s opens of over

pub returns-clause-whole : goal.returns-clause-whole
returns-clause-whole g c begun now file judging named notes told =
    let all = so_far told.history told.carried told.noticed in
    are_of begun.file.now judging named (once_ended told.recording all) all all told.tellings refl (record { next_frames = []; next_carried = []; frames = refl; datagrams = refl }) told.told.told

pub returns-clause-missing : goal.returns-clause-missing
returns-clause-missing g c begun now file judging named notes told =
    let all = so_far told.history told.carried told.noticed in
    are_lacking begun.file.now judging named (frames_in told.recording.waiting) all all told.tellings (record { next_frames = []; next_carried = []; frames = refl; datagrams = refl }) told.came told.told.told

pub returns-clause-beside : goal.returns-clause-beside
returns-clause-beside g c begun now file judging named notes told =
    let all = so_far told.history told.carried told.noticed in
    are_beside begun.file.now judging named (frames_in told.recording.waiting) all all told.tellings (record { next_frames = []; next_carried = []; frames = refl; datagrams = refl }) told.came told.told.told

-- what the reader holds is what waits after the frames
still_waits : (r : RecordingState) (bytes : List ℕ) (history : List Step) → StandsFor r bytes history → r.refused ≡ None → r.waiting ≡ waiting history
still_waits r bytes history stands none = (subst (λ f. RefusedTells f r bytes history) none stands.1).1

pub returns-clause-once : goal.returns-clause-once
returns-clause-once g c begun now file judging named notes told none =
    subst (λ w. AreEachOnce (told_in (giving_up (frames_in w) told.noticed)).lost) (sym (still_waits told.recording told.read.bytes told.history told.read.frames none))
    (lost_once named told.history told.carried told.noticed told.read.frames.0 told.came)

pub returns-clause-alone : goal.returns-clause-alone
returns-clause-alone g c begun now file judging named notes told none =
    subst (λ w. IsLostAlone (told_in (giving_up (frames_in w) told.noticed))) (sym (still_waits told.recording told.read.bytes told.history told.read.frames none))
    (lost_alone named told.history told.carried told.noticed told.read.frames.0 told.came)
