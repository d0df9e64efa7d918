pub mod BlockLines
pub mod ConflictLines
pub mod KnownLine
pub mod RowLines
pub mod SessionLines
