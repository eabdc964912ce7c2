pub mod Comments
pub mod Kept
pub mod Views
pub mod Worked
pub use Rattle.audit_views.specs.Texts.Kept.{AreNoted, AreNotesAfter, IsNoted, Notes, about_in}
pub use Rattle.audit_views.specs.Texts.Comments.{IsComment, Worded, placed_in}
pub use Rattle.audit_views.specs.Texts.Views.{HasComment, IsTextOf, capture_at, captured_at, entries_at, entries_of, header_at, is_seen, text_at, way_at}
