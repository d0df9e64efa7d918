pub mod Combined
pub mod Cuts
pub mod Decoded
pub mod Grammar
pub mod Items
pub mod Limits
pub mod Openings
pub mod Putting
pub mod Reading
pub mod Same
pub mod Spelled
pub mod UpdateGrammar
pub mod UpdateReading
-- what crates above name
unfoldable pub use Decoded.{tx_of}
unfoldable pub use Grammar.{identity_bytes, body_bytes, signed_bytes}
pub use Grammar.{SpellsIdentity, SpellsBody, SpellsSigned, SpellsTx}
unfoldable pub use Items.{SpellsItem, SpellsSignedItem, IsSpelledItem, item_body_bytes, creator_of, item_of}
unfoldable pub use Limits.{id_bytes, max_endorsements, max_tx_bytes}
unfoldable pub use Same.{is_same_identity, is_same_version}
pub use Spelled.{IsSpelled, IsSpelledUpdate}
unfoldable pub use UpdateGrammar.{update_body_bytes, update_signed_bytes}
pub use UpdateGrammar.{SpellsUpdateBody, SpellsSignedUpdate, SpellsUpdate}
