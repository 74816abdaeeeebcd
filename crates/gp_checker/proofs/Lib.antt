pub mod Truth
pub mod Unique
pub mod Exact
pub mod Same
pub mod Lasts
pub mod Finds
pub mod Moved
pub mod Passing
