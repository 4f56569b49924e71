pub mod Trace
pub mod Lawful
