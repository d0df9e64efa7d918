pub mod Changes
pub mod Tentative
pub mod NextDelta
pub mod Submissions
pub mod Taken
pub mod PendingDelta
pub mod Prepared
