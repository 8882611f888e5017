pub mod Form
pub mod Reading
pub mod Reply
pub mod Scan
