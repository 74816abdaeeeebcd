pub mod Question
pub mod Answered
pub mod Keeping
