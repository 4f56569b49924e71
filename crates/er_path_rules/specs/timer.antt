pub mod Against
pub mod Enough
pub mod Fired
pub mod Grown
pub mod Timed
pub mod Walk
