pub mod Dot
pub mod Edges
pub mod Graph
