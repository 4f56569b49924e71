pub mod Shown
pub mod Read
pub mod Numbers
pub mod Words
