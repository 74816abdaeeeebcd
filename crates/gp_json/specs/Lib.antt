pub mod Json
pub mod JsonLaws
pub mod Reading
pub mod Strings
