pub mod AddLemmas
pub mod KeptLemmas
pub mod LocatedLemmas
pub mod LocationLemmas
pub mod TableLemmas
