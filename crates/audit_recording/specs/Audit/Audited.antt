-- What the audit of a recording keeps, and for which frames it stands. Lists have the newest first.
use Rattle.std.specs.Prelude.{◌≡◌, ◌∷◌, ◌+◌, ℕ, List, length, max, Result, Ok, Err}
use Rattle.std.specs.List.{AllByRecursion}
use Rattle.audit_views.specs.Parties.{host_name}
use Rattle.net_udp.specs.Recording.{EventState, IsFateOf, Step}
use Rattle.net_udp.specs.declared.recording.fate.Datagram.{Datagram as Given}
use Rattle.net_udp.specs.declared.recording.fate.Fate.TheVariants as fate
use Rattle.audit_recording.specs.Judges.{RecordingJudge, StandsAfter}
use Rattle.audit_recording.specs.Audit.Passed.{HasPassed, IsTaken, last_time, time_by}
use Rattle.audit_recording.specs.Audit.Sound.{IsSoundDatagram}
use Rattle.audit_recording.specs.declared.audit.next.AuditFault.{AuditFault}
use Rattle.audit_recording.specs.declared.audit.next.AuditFault.TheVariants.{Recording, Judges}
use Rattle.audit_recording.specs.declared.audit.next.NextFrame.{NextFrame}
use Rattle.audit_recording.specs.declared.audit.next.NextFrame.TheVariants.{End, Nothing, Datagram}
use Rattle.audit_flows.specs.Transfers.{place_of, placed}
use Rattle.audit_flows.specs.{Attributed}
use Rattle.audit_flows.specs.Lines.{doubts_of, Placed, clock, Recorded}

-- What the audit of a recording keeps: its judge, and the time of the last datagram in nanoseconds.
pub record RecordingAudit : Type 0 where
  pub judge : RecordingJudge
  pub last_time : ℕ

-- The judges were given what these frames of a recording have given, and nothing else; each host is named by its address.
-- `named` are the service ports that were named, `out` the numbers of the transfers that were handed out.
pub record AuditsAfter (audit : RecordingAudit) (named out : List ℕ) (history : List Step) (passed : List Recorded) : Type 0 where
  pub frames : HasPassed history passed
  pub judges : StandsAfter audit.judge named host_name out passed
  pub time : audit.last_time ≡ last_time passed
  pub sound : AllByRecursion IsSoundDatagram passed

-- the frame is that of the event
pub record IsOf (step : Step) (event : EventState) : Type 0 where
  pub frame : step.frame ≡ event.frame.parts
  pub likeness : step.likeness ≡ event.likeness
  pub outcome : step.brought.outcome ≡ event.brought.outcome
  pub is_discarded : step.is_discarded ≡ event.is_discarded

-- The frame, after those before it, is that of the event: its number, its bytes, and all that became of it.
pub record IsOfEvent (step : Step) (before : List Step) (event : EventState) : Type 0 where
  pub number : event.frame.number ≡ length before + 1
  pub frame : step.frame ≡ event.frame.parts
  pub likeness : step.likeness ≡ event.likeness
  pub brought : step.brought ≡ event.brought
  pub sent : step.sent ≡ event.sent
  pub is_discarded : step.is_discarded ≡ event.is_discarded

-- the datagram is what became of the event's frame, at its time
abbrev pub IsGivenBy : EventState → List Recorded → Recorded → Type 0
IsGivenBy event passed d =
    (given : Given) × IsFateOf event.frame.parts event.likeness event.brought.outcome event.is_discarded (fate.Datagram given)
    × IsTaken given (time_by event.frame.parts.time passed) d

-- a datagram, after these
abbrev pub placed_after : List ℕ → List Placed → Recorded → Placed
placed_after named older d = record { datagram = d; moment = max d.time (clock older); place = place_of named older (max d.time (clock older)) d }

-- where it belongs and what it makes doubtful, by the definition
abbrev pub IsAttributed : List ℕ → List Recorded → Recorded → Attributed → Type 0
IsAttributed named older d a =
    (a.place ≡ (placed_after named (placed named older) d).place) × (a.doubts ≡ doubts_of (placed_after named (placed named older) d) (placed named older))

-- ---- the next frame

-- What stands of what has passed, by what was noted of the event's frame. A fault of the judges leaves nothing.
abbrev pub IsNoted : (List Recorded → Type 0) → List ℕ → List Recorded → EventState → Result NextFrame AuditFault → Type 0
IsNoted Stand named passed event (Ok End) = Unit {0}
IsNoted Stand named passed event (Ok Nothing) = Stand passed
IsNoted Stand named passed event (Ok (Datagram a)) = (d : Recorded) × IsGivenBy event passed d × IsAttributed named passed d a × Stand (d ∷ passed)
IsNoted Stand named passed event (Err fault) = Unit {0}

-- What stands of the frames that were read and of what has passed, by the answer; the newest frame is that of the event.
abbrev pub GoesOn : (List Step → List Recorded → Type 0) → List ℕ → List Step → List Recorded → EventState → Result NextFrame AuditFault → Type 0
GoesOn Stand named history passed event (Ok End) = Stand history passed
GoesOn Stand named history passed event (Ok Nothing) = (step : Step) × IsOfEvent step history event × Stand (step ∷ history) passed
GoesOn Stand named history passed event (Ok (Datagram a)) =
    (step : Step) × (d : Recorded) × IsOfEvent step history event × IsGivenBy event passed d × IsAttributed named passed d a × Stand (step ∷ history) (d ∷ passed)
GoesOn Stand named history passed event (Err (Recording fault)) = Stand history passed
GoesOn Stand named history passed event (Err (Judges fault)) = Unit {0}
