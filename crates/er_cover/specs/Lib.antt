pub mod Classes
pub mod Groups
pub mod Laws
pub mod Parts
pub mod Passes
pub mod Rows
