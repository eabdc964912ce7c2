pub mod Kept
pub mod Points
pub use Rattle.audit_recording.specs.Judges.Kept.{AreAt, AreCrowded, AreHanded, AreJudgesAfter, AreKept, AreOf, AreRefusalsTold, AreWants, BetweenStands, ClientStands, HaveAtMost, IsCrowded, IsKept, IsNew, IsUnheard, IsWatching, Judges, RecordingJudge, ServerStands, StandsAfter, Watched, WereOpened, is_among, opened, refused_at_client, refused_at_server, refused_between, refused_by}
pub use Rattle.audit_recording.specs.Judges.Points.{is_at_own_host, is_inside_host, is_loopback, points_of, rollover_of}
