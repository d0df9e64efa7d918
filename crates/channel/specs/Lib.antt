pub mod Configuration
pub mod Fault
pub mod Lines
pub mod Text
