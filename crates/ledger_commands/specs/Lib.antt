pub mod Drafting
pub mod Failing
pub mod Handing
pub mod Kept
pub mod Querying
pub mod Showing
pub mod Asking
pub mod Counting
