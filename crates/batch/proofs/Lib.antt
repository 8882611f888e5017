pub mod Parts
pub mod Turns
pub mod Holding
pub mod Marks
pub mod Counting
pub mod Whole
pub mod Laws
