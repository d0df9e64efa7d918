pub mod Entries
pub mod Held
pub mod Keys
pub mod Seen
pub mod StateNow
pub mod RangeChecks
pub mod Taking
pub mod Rising
