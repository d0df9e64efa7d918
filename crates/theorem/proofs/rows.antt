-- Worked rows: each computes, and a wrong expectation is refused.
mod Looks
mod Ledger
mod Blocks
mod Order
mod Updates
mod Sample
mod Promises
