pub mod Json
pub mod Reading
