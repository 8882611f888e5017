pub mod Powers
pub mod Halving
pub mod Least
pub mod Loops
pub mod Laws
pub mod Answers
