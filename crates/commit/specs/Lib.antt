pub mod Collecting
pub mod Committing
pub mod OpenFaults
pub mod Prepared
pub mod Running
pub mod Telling
