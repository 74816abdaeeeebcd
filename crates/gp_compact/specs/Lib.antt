pub mod Compact
pub mod ToldLaws
