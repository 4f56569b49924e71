pub mod LateLemmas
pub mod DueLemmas
