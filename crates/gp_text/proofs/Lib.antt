pub mod Checks
pub mod Cuts
pub mod Digits
pub mod OneSpelling
pub mod Padded
pub mod PlainWords
pub mod ReadsAgain
