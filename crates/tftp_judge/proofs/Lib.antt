pub mod Flags
pub mod FirstAnswers
pub mod FirstFaults
pub mod Follows
pub mod PassFound
pub mod Accepting
pub mod TextFound
pub mod WantOfMemory
pub mod ReadVerdicts
pub mod Ended
pub mod ByRuns
pub mod ErrorsAside
pub mod ErrorsNoted
pub mod WhoAcknowledges
pub mod EndedTransfer
pub mod OneVerdict
pub mod OneTextVerdict
mod FirstLines
mod SameVerdicts
pub mod EndedJudge
pub mod MessageFound
pub mod NewMessages
mod Extracting
pub mod TakenMemory
pub mod StaysAfter
pub mod Replied
pub mod CameCanonical
pub mod Taken
pub mod TakenText
mod ByNumbers
