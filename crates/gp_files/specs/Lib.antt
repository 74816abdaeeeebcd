pub mod MadeFileForm
pub mod Naming
pub mod Writing
