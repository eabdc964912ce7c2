pub mod ReadsLemmas
pub mod DecoderLemmas
pub mod CanonicalLemmas
pub mod RunReads
pub mod Moved
pub mod LengthLemmas
pub mod OneByOne
