pub mod Said
pub mod Tags
pub mod Index
