pub mod Ends
pub mod HexPairs
pub mod LineSteps
pub mod ReadBack
pub mod WordSteps
mod Worked
