pub mod Cycle
pub mod DeadEnds
pub mod Examples
pub mod Forced
pub mod Known
pub mod Laws
pub mod Levels
