pub mod BetweenLemmas
pub mod JudgesLemmas
pub mod AuditLemmas
pub mod RowsLemmas
pub mod ReasonsLemmas
pub mod LossesLemmas
pub mod SessionLemmas
pub mod BlameLemmas
