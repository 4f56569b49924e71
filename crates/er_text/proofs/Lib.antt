pub mod ByteLaws
pub mod LineLaws
pub mod WordLaws
pub mod NumberLaws
pub mod NameLaws
