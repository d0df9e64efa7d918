pub mod Words
mod Found
mod Sounding
pub mod Steps
