pub mod AgainLemmas
pub mod RunLemmas
pub mod FamilyLemmas
pub mod PartLemmas
pub mod GraphLemmas
pub mod AccessLemmas
pub mod TaskLemmas
