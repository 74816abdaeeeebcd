pub mod Joined
pub mod Lawful
