pub mod Blocks
pub mod Counts
pub mod Judge
pub mod MatchTexts
pub use declared.counts.carried.Carried.{Carried}
pub use declared.judge.waiting.Wait.{Wait}
pub use declared.judge.waiting.Wait.TheVariants.{SentLater, Unsent}
pub use declared.match_texts.reading.Halt.{Halt}
pub use declared.match_texts.reading.Halt.TheVariants.{Ended, Fault, Refused}
pub use declared.match_texts.said.Apart.{Apart}
pub use declared.match_texts.said.Apart.TheVariants.{Stopped, WrongEnd}
