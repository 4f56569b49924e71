pub mod Fronts
pub mod Listing
pub mod Pairs
pub mod Races
