pub mod Decided
pub mod Cycles
pub mod Closures
pub mod Refuting
