pub mod Passed
pub mod Sound
pub mod Audited
pub use Rattle.audit_recording.specs.Audit.Passed.{IsTaken, last_time, time_by}
pub use Rattle.audit_recording.specs.Audit.Sound.{IsSoundDatagram, IsSoundEnd}
pub use Rattle.audit_recording.specs.Audit.Audited.{AuditsAfter, RecordingAudit, GoesOn, IsAttributed, IsGivenBy, IsNoted, IsOf, IsOfEvent}
