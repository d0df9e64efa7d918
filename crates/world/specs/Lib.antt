pub mod Code
pub mod Applied
