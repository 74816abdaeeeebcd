mod Acceptance
mod Compacted
mod Resumed
