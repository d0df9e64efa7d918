pub mod Beginnings
pub mod Counting
pub mod Crossing
pub mod Keeping
