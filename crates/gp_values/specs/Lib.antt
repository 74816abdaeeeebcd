pub mod Events
pub mod Instances
pub mod Overview
pub mod Reasons
pub mod Report
pub mod Stories
