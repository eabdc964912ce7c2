pub mod Listed
pub mod Twice
pub mod Clock
pub mod Unplaced
pub use Rattle.audit_recording.specs.declared.blame.reason.Reason.{Reason}
pub use Rattle.audit_recording.specs.declared.blame.missing.Missing.{Missing}
pub use Rattle.audit_recording.specs.declared.blame.doubted.Doubted.{Doubted}
pub use Rattle.audit_recording.specs.declared.blame.blame.Blamed.{Blamed}
