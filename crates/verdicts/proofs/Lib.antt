mod Putting
mod Worked
pub mod Pieces
