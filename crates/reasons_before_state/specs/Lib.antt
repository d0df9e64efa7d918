pub mod Labels
pub mod Told
