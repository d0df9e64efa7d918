-- Worked rows of reasons: each computes, and a wrong expectation is refused.
mod Shared
mod Looks
mod Form
mod Identity
mod Shortfall
mod Endorsement
mod Reads
mod Ranges
mod Reasons
mod Updates
