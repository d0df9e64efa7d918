mod Adding
mod Behind
mod Bounds
mod Buffers
mod Counted
pub mod Failing
mod Outcomes
mod Scanned
mod Showing
