pub mod Merged
pub mod Pair
pub mod Captures
pub mod Counts
pub mod Messages
pub mod MatchedCaptures
pub mod PairVerdict
pub mod Waiting
pub mod Worked
pub use Merged.{AreAllOpen, Event, HaveOneOrder, seen_at}
pub use Pair.{AreMerged, ArePair, IsOpen, MaySendEach}
pub use Captures.{AreConsistent, AreConsistentByRules, AreSeenTogether, Capture}
pub use Counts.{PassedSoOften, Times}
pub use Messages.{AreLawfulAndMerged, AreMergedBy, IsBrought, passed_in}
pub use MatchedCaptures.{AreMatchedTo, IsNextIn, IsOpenIn, IsShut, begun}
pub use PairVerdict.{IsLawfulTo, IsPairVerdict, IsWholePair, Keeps}
pub use Waiting.{IsSentAmong, IsSentLater, IsUnsent}
pub use Worked.{acknowledged, at_the_client, at_the_server, block_of, captured_at, did, worked_datagram}
