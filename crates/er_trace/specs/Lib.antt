pub mod Items
pub mod Spelling
pub mod Signature
pub mod Kinds
pub mod Limits
pub mod Versions
pub mod Trace
pub mod Held
