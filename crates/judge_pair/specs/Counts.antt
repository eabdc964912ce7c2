pub mod Counts
pub mod Spelled
pub mod Worked
pub use Rattle.judge_pair.specs.Counts.Counts.{Answers, AreBothWays, AreCounted, AreLost, AreLostBetween, AreRepeated, AreRepeatedBetween, AreTooMany, Counted, IsCountOf, IsSurplus, TakesRoom, counts_of, lost_below, packet_of, packets, repeated_below, sent, surplus_below, taken, times}
