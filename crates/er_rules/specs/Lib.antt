pub mod dispatch
pub mod load
pub mod parse
pub mod request
pub mod script
