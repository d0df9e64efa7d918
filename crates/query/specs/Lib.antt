pub mod Limits
pub mod Published
pub mod Code
pub mod Counted
pub mod Rule
