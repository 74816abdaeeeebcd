pub mod Assuming
pub mod Circling
pub mod Grounded
pub mod Pointed
pub mod Rounds
pub mod Scheduled
pub mod Truly
