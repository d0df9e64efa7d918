-- Blocks that were prepared for the channel of a text.
use Rattle.std.specs.Prelude.{◌≡◌, ℕ, List, Ok}
use Rattle.channel.specs.Configuration.{Configuration}
use Rattle.channel.specs.Fault.{Refuses}
use Rattle.channel.specs.Text.{configuration_of}
use Rattle.policy_eval.specs.Accepts.{Accepts}
use Rattle.next_block.specs.Prepared.{IsPrepared}
use Rattle.ledger.specs.Prepared.{IsAnyRefusal}
use Rattle.ahead.specs.declared.prepared.PreparedBlock.{PreparedBlock}
use Rattle.ahead.specs.declared.preparing.NotPrepared.{NotPrepared}
use Rattle.ahead.specs.declared.preparing.NotPrepared.TheVariants.{Channel, Block}

-- by this verifier, of these bytes
pub record IsPreparedFor (text : List ℕ) (accepts : Accepts) (bytes : List ℕ) (p : PreparedBlock) : Type 0 where
  pub channel : Configuration
  pub of_text : configuration_of text ≡ Ok channel
  pub is : IsPrepared channel accepts bytes p.block
  pub text_is : p.text ≡ text

-- the text's fault, or why any ledger refuses the bytes
abbrev pub IsNotPrepared : List ℕ → List ℕ → NotPrepared → Type 0
IsNotPrepared text bytes (Channel fault) = Refuses fault (configuration_of text)
IsNotPrepared text bytes (Block refused) = IsAnyRefusal bytes refused
