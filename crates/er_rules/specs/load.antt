pub mod Against
pub mod Loads
