pub mod Verdicts
pub mod TakenAs
pub mod TextVerdict
pub mod Ending
pub mod Kept
pub mod SentByKept
pub mod Memory
pub mod KeptCode
pub mod Found
pub mod Extracted
pub mod Exchanges
pub mod Contents
pub use Verdicts.{IsSaid, IsUnlawfulAt, IsVerdict, IsVerdictBy, IsVerdictByRules}
pub use TakenAs.{AreTakenAs, HoldsBy, header_by}
pub use TextVerdict.{AllLawful, BeginsBy, EndsText, IsCaptureBy, IsFaultOf, IsLawfulBy, IsOfText, IsReadVerdict, IsReadVerdictBy, IsSaidBy, IsTextVerdict, IsTextVerdictBy, LawfulBefore, MayWantAt, NoFaultBefore, SaysReadFailed, TakesForLast, WantsMemory, WantsToJudge, WantsToRead, unnumbered}
pub use Ending.{IsUnfinished}
pub use Kept.{Agreed, AreBytesOf, AreErrors, Begun, ErrorText, Errors, HasBegun, HasKept, IsExchange, IsErrorOf, IsJudgeAfter, IsKept, IsTransferAfter, IsTransferOf, Judge, JudgeState, Transfer, Unanswered}
pub use SentByKept.{AreFlags, HasAgreed, HasBlock, HasSentBy, HasSentIn, IsAgreedBy, flags_of}
pub use Memory.{IsNew, TakesForJoin, TakesMemory}
pub use KeptCode.{exchange_of}
pub use Found.{Finds, FindsOf, IsFirstOf, NoneBreaks, Refuses, error_by_port, error_of_fault, error_of_rejection}
pub use Extracted.{Extracts, WritesFile}
pub use Exchanges.{DiffersByExchange, DiffersBySent, HasAnswer, IsNewBlockOn, WaitsForReply}
pub use Contents.{file_in, IsCanonical}
pub use declared.file.FileBytes.{FileBytes}
pub use declared.extraction.OutFault.{OutFault}
pub use declared.refusal.Refusal.{Refusal}
pub use declared.refusal.Refusal.TheVariants.{Aborted, Incomplete, NormalTooLong, Unlawful}
pub use declared.pass_error.PassError.{PassError}
pub use declared.verdict.Verdict.{Verdict}
pub use declared.verdict.Verdict.TheVariants.{Capture, Refused}
