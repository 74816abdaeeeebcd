pub mod Answered
pub mod Examples
pub mod Laws
pub mod Page
pub mod Text
