pub mod Shown
pub mod Due
pub mod Question
pub mod Unasked
pub mod AnsweredLaws
pub mod Answered
pub mod Printed
pub mod Status
