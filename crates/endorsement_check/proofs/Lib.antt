pub mod ByWriters
pub mod WrittenKeys
