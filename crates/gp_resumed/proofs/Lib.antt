mod Keeping
mod Lawful
mod Numbering
mod Shared
