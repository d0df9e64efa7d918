pub mod Crossing
mod Marking
pub mod NextDeltas
pub mod Taken
