mod Definitions
mod EntryOrder
mod FinalChanges
mod FlagLists
mod Kept
mod NextStates
mod Places
mod WrittenKeys
