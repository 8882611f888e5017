pub mod Laws
pub mod Merger
pub mod Answers
