-- Blocks that were taken in before their world is known.
use Rattle.std.specs.Prelude.{ℕ, List}
use Rattle.channel.specs.Configuration.{Configuration}
use Rattle.next_block.specs.declared.prepared.Prepared.{Prepared}
use Rattle.next_block.specs.Prepared.{IsPrepared}
use Rattle.policy_eval.specs.Accepts.{Accepts}
use Rattle.rules.specs.declared.answer.Refused.{Refused}
use Rattle.rules.specs.Linked.{IsRefused}
use Rattle.rules.specs.World.{World}

-- for this channel, by some verifier, of some bytes
pub record IsPreparedIn (channel : Configuration) (p : Prepared) : Type 0 where
  pub accepts : Accepts
  pub bytes : List ℕ
  pub is : IsPrepared channel accepts bytes p

-- why the bytes are refused, whatever the world
abbrev pub IsAnyRefusal : List ℕ → Refused → Type 0
IsAnyRefusal bytes refused = (w : World) → IsRefused w bytes refused
