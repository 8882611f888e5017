pub mod Limits
pub mod Answers
pub mod Rules
pub mod Report
pub mod Trace
