pub mod Choice
pub mod Table
pub mod Search
pub mod Sum
pub mod Text
