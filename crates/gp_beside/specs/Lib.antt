pub mod Beside
pub mod Examples
pub mod Files
pub mod Numbers
pub mod PlaceList
pub mod Refusal
pub mod Sightings
pub mod Sources
