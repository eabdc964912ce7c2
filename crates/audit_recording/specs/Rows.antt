pub mod Accusing
pub mod Told
pub use Rattle.audit_recording.specs.Rows.Accusing.{accused_in_row, accused_of, is_servers, role_at}
pub use Rattle.audit_recording.specs.Rows.Told.{Tells, both_row, depends_on_place, is_told_at_ends, is_at_end, is_refused, is_refused_too, may_be_asked, plain_row, refused_frame, rows_told, said_at, same_frame, telling_depends}
