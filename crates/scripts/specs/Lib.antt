pub mod Draft
pub mod Limits
pub mod Numbers
pub mod RawLines
pub mod Says
pub mod Script
pub mod Taking
pub mod Within
