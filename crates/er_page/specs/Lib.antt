pub mod Accepted
pub mod Handing
pub mod LookUps
pub mod Page
pub mod Pieces
pub mod Roles
pub mod Stack
pub mod Within
