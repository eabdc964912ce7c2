pub mod Between
pub mod Judges
pub mod Audit
pub mod Rows
pub mod Reasons
pub mod Losses
pub mod Session
pub mod Blame
pub mod Endings
pub use declared.judges.judging.Judging.{Judging}
pub use declared.audit.next.AuditFault.{AuditFault}
pub use declared.audit.next.AuditFault.TheVariants.{Recording}
pub use declared.audit.next.NextFrame.{NextFrame}
pub use declared.audit.next.NextFrame.TheVariants.{Datagram, End, Nothing}
pub use declared.rows.accused.Accused.{Accused}
pub use declared.rows.row.Point.{Point}
pub use declared.rows.row.Point.TheVariants.{Client, Server}
pub use declared.rows.said.Said.{Said}
pub use declared.rows.telling.Telling.{Telling}
