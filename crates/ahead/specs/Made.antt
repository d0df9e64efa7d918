-- What is known of a block that was prepared for the channel of a text.
use Rattle.std.specs.Prelude.{◌≡◌, ℕ, List, Ok}
use Rattle.channel.specs.Configuration.{Configuration}
use Rattle.channel.specs.Text.{configuration_of}
use Rattle.next_block.specs.declared.prepared.Prepared.{Prepared}
use Rattle.ledger.specs.Prepared.{IsPreparedIn}

-- by some verifier, of some bytes
pub record IsMade (text : List ℕ) (b : Prepared) : Type 0 where
  pub channel : Configuration
  pub of_text : configuration_of text ≡ Ok channel
  pub is : IsPreparedIn channel b
