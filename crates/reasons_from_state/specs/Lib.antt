pub mod Differences
pub mod Found
pub mod Told
pub mod Touchers
pub mod Writers
