pub mod Body
pub mod Places
pub mod Laws
pub mod Answers
pub mod Refusals
pub mod Visitors
