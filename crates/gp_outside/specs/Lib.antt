pub mod DirFolders
pub mod Faults
pub mod FolderLaws
pub mod Folders
pub mod MemoryFolders
pub mod MemorySinks
pub mod Sinks
pub mod StdSinks
