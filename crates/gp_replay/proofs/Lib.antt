pub mod Countable
pub mod Grammar
pub mod Runs
