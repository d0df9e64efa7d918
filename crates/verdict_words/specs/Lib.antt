pub mod Cells
pub mod Words
pub mod Board
pub mod Seats
pub mod Laws
