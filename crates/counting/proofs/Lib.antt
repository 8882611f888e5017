pub mod Counts
pub mod Numbering
pub mod Prime
pub mod Terms
pub mod Sole
pub mod Solutions
pub mod Next
pub mod Lengths
