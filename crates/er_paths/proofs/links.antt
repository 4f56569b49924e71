pub mod Tests
pub mod Chains
pub mod Fits
pub mod Links
pub mod Ascending
pub mod Sources
pub mod Handed
pub mod Rows
