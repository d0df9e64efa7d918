-- What a committer does, seen from outside. A reader has to believe these files, and the definitions that they name.
--
-- The theorem in words:
--
--  1. Out of memory aside, the channel's configuration, the bytes submitted, the ledger before them and the verifier
--     determine each flag, the next ledger and all hashes. The number of workers and the order of their checks are in
--     no definition, so that they change nothing.
--  2. A block is accepted as a whole, or refused; if it is refused, nothing changes.
--  3. What a block has in its places, transactions, updates or bytes that encode neither, is flagged in order, each by
--     the first test that it fails.
--  4. Reads are compared with the state so far, that is after all valid items before, also those of the same block.
--  5. Endorsements are judged by the policies before the block, those of chaincodes and those of keys.
--  6. Moreover, if a transaction that writes or removes a key's policy passes all tests before the reads, no later
--     transaction of the block may write that key, even if the first one fails on its reads.
--  7. A valid update of a chaincode's policy is alone in its block; its policy holds from the next block on.
--  8. An accepted block's ledger is shown: queries may be answered from it. Bytes may also be refused because memory
--     ran out, and then nothing has changed. If it runs out while the next ledger is being shown, that one is never
--     shown, the call says so, and the committer has stopped: it accepts nothing more, and what it has shown stays.
--  9. Each answer to a query is that of one ledger that was shown, of no lower height than its handle knew of, though
--     perhaps not the newest. This is said of a handle that reads the ledgers of its own committer, up to some height.
-- 10. If two chains have the same height and commit hash, they have the same flags, changed rows and replaced policies
--     at each height and the same state, unless SHA-256 has a collision. Histories, ids, block bytes and first policies
--     may differ (`chain_laws::equal_commit_hashes_tell_the_chain`).
-- 11. Not covered: orderers' signatures, durability, certificates. Some rules are ours, as Fabric's documents are
--     silent. Others are not Fabric's: here the channel is tested before the signature, and ids that repeat within a
--     block before the endorsement; an id stays unused if the channel, the signature or the id itself is wrong; a read
--     may have a version that its own block has written; a chaincode's policy is replaced by an item of its own kind,
--     not by `_lifecycle`; block 0 is like any other, and the first policies come from the channel's text.
--
-- `Serial` has 3 to 7, `Step` 1 and 2, `Promise` and `Telling` 8 and 9; 10 is a contract of the crate `chain_laws`.
-- `ShownBy` ties them to other crates' contracts. No formula is all of it: the proved statements are its parts.
--
-- The premises:
--
-- V: the verifier, which whoever embeds the committer supplies, is a function of identity, message and signature.
-- M: memory suffices while a ledger is being shown. If it doesn't, 8 says what is left.
-- R: a call of a committer that may wait keeps its contract if it returns; no proof shows that it returns.
-- H: a handle is passed receipts of its own committer only.
pub mod Serial
pub mod InTurn
pub mod Step
pub mod Promise
pub mod Telling
pub mod ShownBy
