pub mod Counting
pub mod Counts
pub mod Examples
pub mod Laws
pub mod Page
pub mod Table
pub mod Verdict
