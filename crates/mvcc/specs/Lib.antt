pub mod Versions
pub mod Findings
pub mod ReadPlaces
pub mod RangeChecks
pub mod Waiting
