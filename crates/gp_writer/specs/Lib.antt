pub mod Lines
pub mod LinesLaws
pub mod Spelled
pub mod Steps
