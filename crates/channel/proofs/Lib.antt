pub mod Bound
pub mod Refusals
mod Worked
