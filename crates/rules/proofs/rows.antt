-- Worked rows of the definitions of validation: each computes, and a wrong expectation is refused.
pub mod Shared
mod Looks
mod Conflicts
mod Endorsement
mod Ranges
mod KeyPolicies
mod ReadWriteSets
mod Assignments
mod Ids
mod Origins
mod History
mod TenBlocks
mod Answers
mod Versions
mod Runs
mod Updates
mod Commits
