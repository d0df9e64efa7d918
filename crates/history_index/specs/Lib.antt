pub mod Places
pub mod Hashed
pub mod Buckets
pub mod Index
pub mod Hash
pub mod Lists
