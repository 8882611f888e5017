pub mod Log
pub mod Cells
pub mod Passes
pub mod Model
