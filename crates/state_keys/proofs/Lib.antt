pub mod Answers
mod Heads
mod Words
mod Worked
