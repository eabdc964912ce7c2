pub mod Seen
pub mod Captures
pub mod Spared
pub mod Strayed
pub mod Served
pub mod Worked
pub use Rattle.audit_spared.specs.Spared.Seen.{HasNoSilence, as_seen_by, at_client_of, is_with}
pub use Rattle.audit_spared.specs.Spared.Captures.{AnswersFirst, AreCaptures, AreInOrder, AsksInTime, Follows, IsLawfulAt, IsNext, asks_from, begins, comes_at, goes_from, goes_on, goes_on_from}
pub use Rattle.audit_spared.specs.Spared.Spared.{AreAskedAtService, AreInterleaved, AskersAreElsewhere, FollowOneAnother, HaveNoServicePort, HaveOwnNames, IsAddressIn, IsWholeCapture, SparesClients, SparesClientsByThree, SparesViews, is_doubted_there, needs_doubt}
pub use Rattle.audit_spared.specs.Spared.Strayed.{AreIdle, AreStrayed, AreStraysHere, IsIdle, IsStrayHere, IsStrayedCapture, SparesStrayedClients, SparesStrayedClientsByFour, has_come, is_busy, without_strays}
pub use Rattle.audit_spared.specs.Spared.Served.{AreAtHost, AreServed, IsServedCapture, IsTimelyCapture, SparesLateServers, SparesLateServersByFive, SparesServers, SparesServersByFive, SparesServersByFour, as_served, at_server_of, captured_there, is_shared, is_talk_of_another, seen_at_server, server_saw, transfer_beside, went_out}
