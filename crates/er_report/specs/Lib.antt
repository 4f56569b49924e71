pub mod Report
pub mod Fragments
pub mod Rows
