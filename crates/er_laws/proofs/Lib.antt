pub mod KeptLemmas
pub mod LeastLemmas
pub mod RaceLemmas
pub mod TaskLemmas
pub mod VersionLemmas
