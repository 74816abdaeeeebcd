pub mod Bounds
pub mod Extension
pub mod Following
pub mod Written
pub mod Truth
pub mod Deriving
pub mod Least
pub mod Counting
