pub mod WrittenRow
pub mod Rows
pub mod Entries
