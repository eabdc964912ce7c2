pub mod Captured
pub mod Judged
pub mod Kept
pub mod Worked
pub use Rattle.audit_recording.specs.Between.Captured.{are_apart, between_capture, is_to_itself, passed_of, peer_of, server_or_asked, sides_by, sides_of, sides_with}
pub use Rattle.audit_recording.specs.Between.Judged.{HasTapped, HasTappedBy, HoldsBetween, IsBetweenFoundBy, IsBetweenVerdict, IsTapRefusedIn, TappedBy}
pub use Rattle.audit_recording.specs.Between.Kept.{AreHeld, Between, BetweenBy, HasPassed, IsBetweenAfter, IsBetweenAfterBy, IsGoingOnBy, IsJudgedIfApart, IsWaiting, PassedBy, View, counted_by, given_to, has_refused, passed_as, side_of}
