pub mod Beside
pub mod Places
