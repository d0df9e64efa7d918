pub mod Crossing
mod Parts
