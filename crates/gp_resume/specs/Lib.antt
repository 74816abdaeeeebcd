pub mod Old
pub mod Standing
pub mod Kept
pub mod Table
pub mod KeptForm
pub mod TestForm
pub mod Keeping
