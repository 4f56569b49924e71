pub mod BackLemmas
pub mod DueLemmas
pub mod LateLemmas
pub mod NewestLemmas
pub mod RulesLemmas
