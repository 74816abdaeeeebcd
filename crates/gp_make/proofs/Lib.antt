pub mod Growing
pub mod Traces
pub mod Runs
pub mod Apart
