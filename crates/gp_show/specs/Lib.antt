pub mod Answers
pub mod Choice
pub mod Due
pub mod Laws
pub mod Request
pub mod Show
pub mod Shown
pub mod Telling
