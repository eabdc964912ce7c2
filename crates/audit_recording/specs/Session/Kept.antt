-- What is kept of a recording, as far as it was read. Lists have the newest first.
use Rattle.std.specs.Prelude.{◌≡◌, ◌⊎◌, ◌∷◌, ℕ, Bool, true, false, List, Result, Ok, Err}
use Rattle.net_udp.specs.Recording.{EventState, IsFateOf, Step}
use Rattle.net_udp.specs.declared.recording.fate.Datagram.{Datagram as Given}
use Rattle.net_udp.specs.declared.recording.fate.Fate.TheVariants.{Datagram}
use Rattle.audit_recording.specs.Audit.Audited.{AuditsAfter, RecordingAudit}
use Rattle.audit_recording.specs.Blame.Frames.{Carried, datagrams_of}
use Rattle.audit_recording.specs.Session.Beside.{AreMarksKept}
use Rattle.audit_recording.specs.Session.Heard.{AreUnreachedKept, IsFrameOf}
use Rattle.audit_recording.specs.Session.Noted.{AreNotesOf, Noticed}
use Rattle.audit_recording.specs.Session.Recording.{IsNoticedOf}
use Rattle.audit_recording.specs.Session.Texts.{AreTextsKept}
use Rattle.audit_recording.specs.Session.Trails.{AreTrailsKept}
use Rattle.audit_recording.specs.declared.session.session.Session.{Session}

-- It is the session of these datagrams, which came by these frames, whatever was noticed: the judges were given the datagrams, the notes are of
-- what is said to be noticed, each transfer that was not handed out has its trail, with what may have been of it, and each whose text is wanted
-- has its text.
-- `named` are the service ports that were named, `out` the numbers of the transfers that were handed out.
pub record IsSessionOf (session : Session) (named out : List ℕ) (history : List Step) (carried : List Carried) (s : Noticed) : Type 0 where
  pub audit : AuditsAfter session.audit named out history (datagrams_of carried)
  pub notes : AreNotesOf session.notes s
  pub trails : AreTrailsKept session.trails session.audit.judge.judging named out carried
  pub texts : AreTextsKept session.kept named carried
  pub beside : AreMarksKept session.unplaced session.trails out s.beside
  pub unreached : AreUnreachedKept session.unreached named out history carried

-- By these frames these datagrams came, and this was noticed; it is their session.
pub record IsSessionAfter (session : Session) (named out : List ℕ) (history : List Step) (carried : List Carried) (s : Noticed) : Type 0 where
  pub noticed : IsNoticedOf named history carried s
  pub kept : IsSessionOf session named out history carried s

-- ---- within the reading of a frame

-- the same, but that what the newest frame tells of datagrams that did not arrive was not looked at
pub record IsReadOf (session : Session) (named out : List ℕ) (history : List Step) (carried : List Carried) (s : Noticed) : Type 0 where
  pub audit : AuditsAfter session.audit named out history (datagrams_of carried)
  pub notes : AreNotesOf session.notes s
  pub trails : AreTrailsKept session.trails session.audit.judge.judging named out carried
  pub texts : AreTextsKept session.kept named carried
  pub beside : AreMarksKept session.unplaced session.trails out s.beside

pub record IsReadAfter (session : Session) (named out : List ℕ) (history : List Step) (carried : List Carried) (s : Noticed) : Type 0 where
  pub noticed : IsNoticedOf named history carried s
  pub kept : IsReadOf session named out history carried s

-- The frames are those that were read before, or one more, which is that of the event; and it brought one datagram more or none.
abbrev pub AddsFrame : List Step → List Carried → EventState → List Step → List Carried → Type 0
AddsFrame history carried event frames all =
    ((frames ≡ history) × (all ≡ carried))
    ⊎ ((step : Step) × (frames ≡ step ∷ history) × IsFrameOf step history event × ((all ≡ carried) ⊎ ((c : Carried) × (all ≡ c ∷ carried) × (c.frame ≡ event.frame.number))))

-- the event's frame has given no datagram
abbrev pub GivesNone : EventState → Type 0
GivesNone event = (given : Given) → IsFateOf event.frame.parts event.likeness event.brought.outcome event.is_discarded (Datagram given) → ⊥

-- with one datagram more, or none
abbrev pub IsOneMore : List Carried → List Carried → Type 0
IsOneMore older all = (all ≡ older) ⊎ ((c : Carried) × (all ≡ c ∷ older))

-- The judges have failed for good, or they stand for what has passed, with the newest datagram or without it.
abbrev pub AreJudgesLeft : RecordingAudit → List ℕ → List ℕ → List Carried → Type 0
AreJudgesLeft audit named out carried =
    (audit.judge.failed ≡ true) ⊎ ((history : List Step) × (all : List Carried) × IsOneMore carried all × AuditsAfter audit named out history (datagrams_of all))

-- What stands after the next frame, by whether the recording goes on. A fault leaves nothing.
abbrev pub ReadsOn : {F : Type 0} → (List Step → List Carried → Noticed → Type 0) → List Step → List Carried → Noticed → Result Bool F → Type 0
ReadsOn Stand history carried s (Ok true) = (step : Step) × (all : List Carried) × (t : Noticed) × IsOneMore carried all × Stand (step ∷ history) all t
ReadsOn Stand history carried s (Ok false) = Stand history carried s
ReadsOn Stand history carried s (Err fault) = Unit {0}
