pub mod ReadLemmas
pub mod NumberLemmas
pub mod ReasonLemmas
pub mod TaskLemmas
