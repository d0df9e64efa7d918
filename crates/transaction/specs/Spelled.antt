-- Transactions, and updates of definitions, that have a spelling.
use Rattle.std.specs.Prelude.{ℕ, List}
use Rattle.transaction.specs.declared.transaction.Tx.{Tx}
use Rattle.transaction.specs.declared.update.Update.{Update}
use Rattle.transaction.specs.Grammar.{SpellsTx}
use Rattle.transaction.specs.UpdateGrammar.{SpellsUpdate}

-- Some bytes spell the transaction.
pub record IsSpelled (tx : Tx) : Type 0 where
  pub bytes : List ℕ
  pub spelled : SpellsTx bytes tx

-- Some bytes spell the update.
pub record IsSpelledUpdate (u : Update) : Type 0 where
  pub bytes : List ℕ
  pub spelled : SpellsUpdate bytes u
