pub mod Sizes
pub mod Fit
pub mod Run
pub mod Log
pub mod Passes
pub mod State
