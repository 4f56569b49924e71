pub mod Laws
pub mod Limits
pub mod links
pub mod orders
pub mod Paths
