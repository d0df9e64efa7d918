pub mod Parts
pub mod Picked
