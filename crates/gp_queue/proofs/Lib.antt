pub mod Chains
pub mod Rings
pub mod Orders
