mod Pieces
mod AllSaid
mod Worked
