pub mod Apart
pub mod Leading
pub mod Paths
