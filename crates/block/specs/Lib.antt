pub mod first_version
pub mod Faults
pub mod Grammar
pub mod Limits
pub mod Reading
-- what crates above name
unfoldable pub use Faults.{HasFault}
pub use Grammar.{Spells, bytes_of}
unfoldable pub use Limits.{max_txs}
