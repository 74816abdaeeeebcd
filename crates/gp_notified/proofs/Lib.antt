pub mod Gathered
pub mod Joined
pub mod Lawful
pub mod Records
