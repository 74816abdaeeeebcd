pub mod Cut
pub mod Examples
pub mod Laws
pub mod Parts
pub mod PartsExamples
