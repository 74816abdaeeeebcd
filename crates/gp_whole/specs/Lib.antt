pub mod Linked
pub mod Whole
pub mod WholeLaws
