pub mod Judged
pub mod Datagrams
pub mod Reading
pub mod Merging
pub mod Said
pub use Rattle.judge_pair.specs.MatchTexts.Judged.{IsJudged, IsJudgedBy}
pub use Rattle.judge_pair.specs.MatchTexts.Datagrams.{AreReadAs, HasDatagrams, capture_of, captured_by}
pub use Rattle.judge_pair.specs.MatchTexts.Reading.{GoesOnAt, HasRead, IsFinished, IsGiven, IsHalted, IsSeenAt, Seen, said_by, seen}
pub use Rattle.judge_pair.specs.MatchTexts.Merging.{AloneRuns, AreSeenBoth, BothRun, HasBegun, IsAloneAt, IsPairAt, IsRestAt, RestRuns, Runs, RunsBy, itself, judge_at, left_judge_at, lines_left}
pub use Rattle.judge_pair.specs.MatchTexts.Said.{AreCopies, AreNumbersBy, AreNumbersOf, AreTogether, AreWhys, IsAllLawful, IsApart, IsPairSaid, IsPairSaidBy, IsStopped, IsTextFault, IsWhy, NamesEnd, SaysMatched}
