pub mod Authentic
pub mod DraftBlock
pub mod DraftItem
pub mod Drafted
pub mod Encoding
