pub mod Listed
pub mod Ended
pub mod Truth
pub mod Finds
pub mod Moved
