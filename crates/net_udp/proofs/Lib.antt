pub mod FramesLemmas
pub mod FragmentsLemmas
pub mod CopiesLemmas
pub mod RecordingLemmas
