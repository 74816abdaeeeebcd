pub mod Compacted
pub mod CompactedLaws
pub mod FoundLaws
pub mod GrownLaws
pub mod Keys
pub mod Moving
pub mod PlaceLaws
