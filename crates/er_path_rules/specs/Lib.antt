pub mod task
pub mod timer
