pub mod DataHash
pub mod Der
pub mod Hashes
pub mod Minimal
