pub mod Made
pub mod Prepared
