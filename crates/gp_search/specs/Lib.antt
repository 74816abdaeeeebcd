pub mod Verdict
pub mod Mail
pub mod Bounds
pub mod Inside
pub mod Moves
pub mod OfferLaws
