pub mod Firstly
pub mod NewNumbers
pub mod Walks
