pub mod Chains
pub mod Links
pub mod Laws
pub mod Rows
