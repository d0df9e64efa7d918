pub mod FieldLoop
pub mod FieldLaws
pub mod RecordLaws
pub mod OpeningLaws
pub mod Answered
pub mod UpdateLaws
pub mod PutLoop
pub mod SignedPart
mod Worked
mod WorkedUpdates
