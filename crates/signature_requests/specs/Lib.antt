pub mod Requests
pub mod Agreement
pub mod Told
pub mod Spelling
