pub mod Ids
pub mod Marks
pub mod SameIds
pub mod Hash
pub mod Lists
pub mod Found
