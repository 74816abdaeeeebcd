mod Lawful
mod Same
mod Agreement
mod Digits
mod Few
mod Sizes
mod Enough
mod Compact
