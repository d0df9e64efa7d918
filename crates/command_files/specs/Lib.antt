pub mod Failing
pub mod Reading
pub mod Status
