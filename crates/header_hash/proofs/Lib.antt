pub mod IntegerOctets
pub mod Pushed
pub mod MinimalIntegers
pub mod Worked
pub mod OneInteger
