-- What a script says of one transaction, or of one update of a definition.
use Rattle.std.specs.Prelude.{ℕ, List}
use Rattle.transaction.specs.declared.identity.Identity.{Identity}
use Rattle.scripts.specs.declared.draft.Content.{Content}

-- The channel, the id and the signatures aren't said: they are computed.
pub record Draft : Type 0 where
  -- the number of its `tx` or `update` line
  pub line : ℕ
  pub creator : Identity
  pub nonce : List ℕ
  -- the chaincode that a transaction names, or whose definition an update changes
  pub chaincode : List ℕ
  pub content : Content
  pub endorsers : List Identity
