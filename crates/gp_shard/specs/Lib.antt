pub mod Shard
pub mod Reading
pub mod Laws
pub mod Examples
