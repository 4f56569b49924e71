pub mod Apart
pub mod Full
pub mod Late
pub mod Nested
pub mod Random
pub mod Realistic
pub mod Timers
pub mod Tasks
