pub mod Against
pub mod Replies
