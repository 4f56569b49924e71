pub mod BackLemmas
pub mod DueLemmas
pub mod LateLemmas
