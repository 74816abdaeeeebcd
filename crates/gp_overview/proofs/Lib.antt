pub mod AddUp
pub mod Counted
pub mod OwnMarkup
pub mod Rows
pub mod Told
