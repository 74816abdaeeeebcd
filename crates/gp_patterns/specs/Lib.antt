pub mod Tickets
pub mod Answered
pub mod Question
pub mod EncodableLaws
pub mod Agreement
pub mod Enough
pub mod CompactAnswer
