pub mod Captured
pub mod Judged
pub mod Kept
pub mod Worked
pub use Rattle.audit_views.specs.Views.Captured.{Naming, captured, captured_as, captured_at_client, captured_at_server, client_capture, client_header, server_capture, server_header, way_at_client, way_at_server}
pub use Rattle.audit_views.specs.Views.Judged.{AreWritten, HasJudged, HasJudgedBy, HoldsOf, IsFoundBy, IsJudged, IsJudgedBy, IsJudgedWith, IsRefusedIn, IsWanting, JudgedBy, StandsBy, of_text}
pub use Rattle.audit_views.specs.Views.Kept.{AreHeld, Client, IsClientAfter, IsClientAfterBy, IsFed, IsGoingOn, IsGoingOnBy, IsServerAfter, IsServerAfterBy, IsViewAfter, IsViewAfterBy, IsWaiting, OneEnd, Server, View, ViewedBy, ViewedWith, fed_to, has_refused, held_of}
pub use Rattle.audit_views.specs.Views.Worked.{first_transfer}
