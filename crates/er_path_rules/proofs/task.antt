pub mod SinceLemmas
pub mod TellLemmas
pub mod WalkLemmas
pub mod ListLemmas
pub mod RuleLemmas
pub mod PartLemmas
pub mod HandLemmas
