pub mod Numbering
pub mod Solutions
pub mod Lengths
