mod Worked
mod WorkedKnown
pub mod Written
