pub mod Line
pub mod Lines
pub mod Name
pub mod Numbers
pub mod Padding
pub mod Spelling
pub mod SpellingLaws
