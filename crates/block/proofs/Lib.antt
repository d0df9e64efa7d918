pub mod Steps
pub mod Rests
pub mod Fields
pub mod Headers
pub mod Blocks
pub mod Faulty
pub mod FaultyAgain
mod FirstLaws
pub mod Versions
pub mod Answered
mod Cuts
pub mod Within
pub mod Worked
mod WorkedVersions
pub mod Transactions
