pub mod Leading
pub mod OwnMarkup
pub mod Plain
pub mod Steps
pub mod Telling
