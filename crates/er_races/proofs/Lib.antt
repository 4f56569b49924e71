pub mod FrontLemmas
pub mod ListLemmas
pub mod Order
pub mod PairLemmas
pub mod RaceLemmas
pub mod SecondLemmas
pub mod SortLemmas
