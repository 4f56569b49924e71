pub mod Buffered
pub mod Forms
pub mod Heads
pub mod Lines
pub mod Plain
pub mod Tokens
