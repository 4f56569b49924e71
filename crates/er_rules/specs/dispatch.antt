pub mod Against
pub mod Due
