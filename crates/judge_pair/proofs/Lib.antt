pub mod CountsLemmas
pub mod JudgeLemmas
pub mod MatchTextsLemmas
