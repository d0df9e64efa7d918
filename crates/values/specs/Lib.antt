pub mod Hash
pub mod Key
pub mod Memory
pub mod Name
pub mod Order
-- what crates above name
unfoldable pub use Hash.{hash_bytes, IsHash}
unfoldable pub use Key.{max_key_bytes, is_key, is_bound}
unfoldable pub use Memory.{GivesUnless}
unfoldable pub use Name.{max_name_bytes, is_name}
unfoldable pub use Order.{bytes_cmp}
