-- The next block's reasons as records.
use Rattle.std.specs.Prelude.{ℕ, List}
use Rattle.policy_eval.specs.Accepts.{Accepts}
use Rattle.channel.specs.Configuration.{Configuration}
use Rattle.rules.specs.World.{World, height_of}
use Rattle.reasons.specs.declared.reason.Reason.{Reason}
use Rattle.ledger.specs.NextReasons.{AreNextReasons}
use Rattle.reason_lists.specs.declared.listing.ListedReasons.{ListedReasons}
use Rattle.reason_lists.specs.Pooled.{AreListed}

-- The bytes spell the next block of this world, and the reasons of its places are listed.
pub record AreNextListed (channel : Configuration) (accepts : Accepts) (w : World) (bytes : List ℕ) (l : ListedReasons) : Type 0 where
  pub reasons : List Reason
  pub next : AreNextReasons channel accepts w bytes reasons
  pub listed : AreListed (height_of w) reasons l
