pub mod Folded
pub mod Lines
pub mod Recalled
pub mod Sources
pub mod Told
pub mod Touching
