pub mod CountedLemmas
pub mod AccessLemmas
pub mod FoundLemmas
pub mod ClaimedLemmas
pub mod RankLemmas
