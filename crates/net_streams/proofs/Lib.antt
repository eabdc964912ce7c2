pub mod StreamsLemmas
pub mod DigitsLemmas
