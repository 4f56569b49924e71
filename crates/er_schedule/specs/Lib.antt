pub mod Schedules
pub mod Marks
pub mod Text
