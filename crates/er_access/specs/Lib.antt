pub mod ByNumber
pub mod InPlace
pub mod Kept
pub mod Numbers
pub mod Place
pub mod Table
