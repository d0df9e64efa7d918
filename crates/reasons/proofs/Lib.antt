mod Lacking
mod Missing
mod Reordered
mod Lists
mod Refused
mod Differences
mod Form
mod Identity
mod Endorsement
mod Below
mod Writers
mod Conflicts
pub mod Places
pub mod Updates
mod Uniqueness
pub mod Unsatisfied
mod Existence
mod BlockReasons
mod rows
