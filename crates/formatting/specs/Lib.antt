pub mod Text
pub mod Listing
pub mod Census
pub mod Room
