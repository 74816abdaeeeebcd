pub mod NeverDue
pub mod Readers
pub mod Saying
pub mod ShardsNeverDue
pub mod ShownNeverDue
