pub mod GeneratedLemmas
pub mod CallerLemmas
