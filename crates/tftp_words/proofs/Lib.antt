pub mod PartLemmas
pub mod Having
pub mod Saying
pub mod Reading
pub mod Asking
pub mod Worked
