pub mod MakeLemmas
pub mod MarkLemmas
pub mod TextLemmas
