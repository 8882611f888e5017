pub mod Marks
pub mod Held
pub mod Each
