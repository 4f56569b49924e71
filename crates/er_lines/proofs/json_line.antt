pub mod WordLemmas
pub mod ShapeLemmas
pub mod RecordLemmas
pub mod HeaderLemmas
pub mod PlainCuts
pub mod PlainLemmas
