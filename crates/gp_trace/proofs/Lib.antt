pub mod Again
pub mod Canonical
pub mod Fits
pub mod Fronts
pub mod Reached
pub mod Renumbered
pub mod Spelled
pub mod Texts
pub mod Walked
pub mod Whole
mod Stood
