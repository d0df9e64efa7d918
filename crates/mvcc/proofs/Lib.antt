pub mod Agreeing
pub mod ByOperations
pub mod Walking
pub mod SureVersions
mod Beyond
pub mod EachTested
pub mod LookedAt
pub mod NumberedReads
pub mod Answering
pub mod Results
pub mod RangeLaw
pub mod RangeCovers
pub mod RowsStop
pub mod ComparedKeys
pub mod LastResult
pub mod FirstFault
