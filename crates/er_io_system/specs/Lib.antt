pub mod Memory
pub mod Counted
