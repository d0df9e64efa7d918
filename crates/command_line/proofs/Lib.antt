mod Answered
pub mod Books
pub mod Handing
pub mod Heights
pub mod Outcomes
pub mod Printing
pub mod Telling
pub mod FilesRead
