pub mod Room
pub mod AcceptedBlock
pub mod ToldAlike
pub mod Commits
