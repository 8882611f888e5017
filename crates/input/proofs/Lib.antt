pub mod Holding
pub mod Replies
pub mod Pieces
pub mod Turns
pub mod Filling
pub mod Each
