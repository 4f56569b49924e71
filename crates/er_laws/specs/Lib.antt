pub mod Kept
pub mod LeastRule
pub mod Tasks
pub mod Versions
pub mod rows
