pub mod Fired
pub mod Claimed
