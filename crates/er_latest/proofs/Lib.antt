pub mod GroupsLemmas
pub mod LatestLemmas
pub mod RoleLemmas
