pub mod Lines
pub mod Printed
pub mod Spelling
pub mod Statements
pub mod Utf8
pub mod Words
