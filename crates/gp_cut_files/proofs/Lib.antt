pub mod Chosen
pub mod CutRead
pub mod CutTraces
pub mod ManifestAgain
pub mod Plain
pub mod RecordingAgain
pub mod UpTo
pub mod WasRead
