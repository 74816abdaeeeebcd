mod Carried
mod Replayed
mod Roots
