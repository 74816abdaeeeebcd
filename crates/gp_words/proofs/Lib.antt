pub mod Collected
pub mod Names
pub mod Permuted
pub mod Sound
pub mod Walks
pub mod WordForms
