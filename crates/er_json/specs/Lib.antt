pub mod Json
pub mod Parts
pub mod Fragments
pub mod Rows
