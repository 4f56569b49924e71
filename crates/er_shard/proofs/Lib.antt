pub mod NamedLemmas
pub mod PartLemmas
