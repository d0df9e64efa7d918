pub mod Tentative
pub mod Place
pub mod Placed
