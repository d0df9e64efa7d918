pub mod Worlds
pub mod Folding
pub mod InForm
pub mod RangeChecks
pub mod Places
pub mod Steps
mod Pieces
pub mod Histories
