pub mod Accepted
pub mod Rejected
pub mod Checked
pub mod Finds
pub mod Sound
pub mod Laws
