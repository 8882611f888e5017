pub mod States
pub mod Numbers
pub mod Values
pub mod Told
pub mod Signs
pub mod Scanning
pub mod Writing
pub mod Answers
