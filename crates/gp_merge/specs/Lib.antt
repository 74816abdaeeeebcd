pub mod Checking
pub mod Examples
pub mod Laws
pub mod Merge
pub mod Moving
pub mod Reaching
