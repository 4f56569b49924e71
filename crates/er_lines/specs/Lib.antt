pub mod Feed
pub mod Format
pub mod json_line
pub mod Lines
pub mod Marks
pub mod Steps
pub mod Text
