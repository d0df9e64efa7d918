mod Falling
pub mod FirstThere
pub mod Inverted
pub mod Repeating
mod Telling
mod Uses
