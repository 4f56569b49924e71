pub mod Against
pub mod Scripts
