pub mod PartiesLemmas
pub mod ViewsLemmas
pub mod TextsLemmas
