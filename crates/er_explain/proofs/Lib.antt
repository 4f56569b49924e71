pub mod SourceLemmas
pub mod StepLemmas
pub mod TextLemmas
