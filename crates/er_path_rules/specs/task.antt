pub mod Against
pub mod Before
pub mod Counts
pub mod Due
pub mod Enough
pub mod Handed
pub mod Kinds
pub mod Parts
