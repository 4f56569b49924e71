pub mod Begun
pub mod Tasks
