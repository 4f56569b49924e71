pub mod Accepted
pub mod Again
pub mod Graph
pub mod Next
