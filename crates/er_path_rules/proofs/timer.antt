pub mod CallbackLemmas
pub mod FiredLemmas
pub mod GrownLemmas
pub mod SetLemmas
pub mod TimersLemmas
pub mod WalkLemmas
