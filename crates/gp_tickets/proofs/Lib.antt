mod Hands
mod Moves
mod Steps
mod Order
mod Parts
