mod AsHeld
mod Crossing
mod Words
