pub mod Merging
pub mod Flags
pub mod Kept
pub mod Rest
pub mod Verdicts
pub mod Worked
pub use Rattle.judge_pair.specs.Judge.Merging.{AreMergedBut, IsAskedAgain, IsWaitFor, Waits, WasSent, with_held}
pub use Rattle.judge_pair.specs.Judge.Flags.{Acks, HasRoom, flags_by, flags_in}
pub use Rattle.judge_pair.specs.Judge.Kept.{AreSidesAfter, HasSame, IsNumbered, IsPairAfter, IsSideAfter, Pair, Side, side_at}
pub use Rattle.judge_pair.specs.Judge.Rest.{IsLeftAfter, IsRestAfter, Left, left_at}
pub use Rattle.judge_pair.specs.Judge.Verdicts.{AreCarried, AreCountsOf, GoesNoFurther, IsReadOf, IsWhyWaiting}
