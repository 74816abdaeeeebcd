pub mod Examples
pub mod FactText
pub mod Naming
pub mod ReasonText
pub mod StoryText
