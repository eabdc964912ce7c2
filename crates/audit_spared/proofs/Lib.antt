pub mod FairLemmas
pub mod SparedLemmas
pub mod FinalityLemmas
