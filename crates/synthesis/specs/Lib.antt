pub mod Joining
pub mod Synthesis
