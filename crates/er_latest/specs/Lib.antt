pub mod Latest
pub mod Roles
pub mod Tables
