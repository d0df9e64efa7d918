pub mod Places
pub mod Shortfalls
pub mod Said
pub mod Pooled
pub mod Explained
pub mod Reading
