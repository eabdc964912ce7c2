pub mod Frames
pub mod Named
pub mod Facts
pub mod Several
pub mod Kept
pub mod Worked
pub use Rattle.audit_recording.specs.Blame.Frames.{Carried, Framed, datagrams_of, framed, is_seen, seen_as, view_of, whole_of}
pub use Rattle.audit_recording.specs.Blame.Facts.{IsRefusedAt, blamed_as, blamed_of, goes_on, has_gone_on, is_for_server, refused_between, refused_in}
pub use Rattle.audit_recording.specs.Blame.Kept.{IsPassing, IsTrailBetween, IsTrailOf}
pub use Rattle.audit_recording.specs.Blame.Named.{is_named, named_in, names_option, with_named}
