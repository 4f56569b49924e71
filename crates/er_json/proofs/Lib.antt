pub mod LetterLemmas
pub mod FragmentLemmas
pub mod LineLemmas
