pub mod Argument
pub mod Reading
pub mod Value
pub mod Command
pub mod Order
pub mod Forms
pub mod Showing
pub mod Sharding
