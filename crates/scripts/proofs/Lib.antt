pub mod Last
pub mod RawLines
pub mod SayingLimits
pub mod ScriptLimits
pub mod Steps
pub mod Unsigned
mod Worked
