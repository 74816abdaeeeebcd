pub mod Draws
pub mod Files
pub mod Program
pub mod Run
pub mod Texts
pub mod Traces
pub mod Writing
