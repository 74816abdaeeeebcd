pub mod CutFiles
pub mod Examples
pub mod ManifestText
pub mod Reading
pub mod Values
