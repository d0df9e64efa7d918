pub mod Items
pub mod Matched
pub mod Options
pub mod Program
pub mod Rules
pub mod Words
