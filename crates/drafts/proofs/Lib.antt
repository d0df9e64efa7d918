pub mod BlockLimits
pub mod ItemLimits
pub mod Items
pub mod Signatures
mod Worked
