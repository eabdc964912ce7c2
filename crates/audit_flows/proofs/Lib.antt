pub mod LinesLemmas
pub mod TransfersLemmas
