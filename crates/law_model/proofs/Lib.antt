pub mod ModelLemmas
pub mod RulesLemmas
pub mod Results
