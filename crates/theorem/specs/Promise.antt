-- What a committer and the handles of its readers promise, over the ledgers that it has shown.
use Rattle.std.specs.Prelude.{◌≡◌, ◌≢◌, ◌≤◌, ℕ, Bool, true, false, List, [], ◌∷◌, ◌++◌, Option, Some, Result, Ok, Err, slice_get}
use Rattle.channel.specs.Configuration.{Configuration}
use Rattle.policy_eval.specs.Accepts.{Accepts}
use Rattle.rules.specs.declared.answer.Accepted.{Accepted}
use Rattle.rules.specs.declared.answer.Refused.TheVariants.{Memory}
use Rattle.rules.specs.World.{World, empty_world}
use Rattle.rules.specs.Answers.{Reply, reply}
use Rattle.rules.specs.Linked.{IsRefused}
use Rattle.commit.specs.declared.not_committed.NotCommitted.{NotCommitted}
use Rattle.commit.specs.declared.not_committed.NotCommitted.TheVariants.{Refused, MemoryInCommit, Stopped}
use Rattle.theorem.specs.InTurn.{InTurn}
use Rattle.theorem.specs.Step.{Takes}

-- the ledgers that a committer has shown to its readers
pub record Shown : Type 0 where
  -- its definitions are the policies of chaincodes before block 0
  pub channel : Configuration
  -- one after each accepted block, the newest last
  pub ledgers : List World
  -- memory ran out while it showed one, so that it accepts nothing more
  pub stopped : Bool

-- the ledger of height 0
abbrev pub first_ledger : Shown → World
first_ledger s = empty_world s.channel.definitions

abbrev pub ledger_at : Shown → ℕ → Option World
ledger_at s height = slice_get (first_ledger s ∷ s.ledgers) height

abbrev pub last_of : World → List World → World
last_of w [] = w
last_of w (x ∷ xs) = last_of x xs

abbrev pub newest : Shown → World
newest s = last_of (first_ledger s) s.ledgers

-- ---- the committer

-- The bytes are accepted with this answer, and lead from the newest ledger to this one.
abbrev pub Leads : Accepts → Shown → List ℕ → Accepted → World → Type 0
Leads accepts s bytes answer next = Takes s.channel accepts (newest s) bytes (Ok answer) next

-- After bytes that are accepted, the committer has shown one ledger more. A refusal changes nothing; any bytes may be
-- refused because memory ran out. If it ran out while the next ledger was being shown, the committer has stopped: it
-- never shows that ledger nor a further one and returns Stopped from then on, and its readers go on with what it has
-- shown.
abbrev pub Submits : Accepts → Shown → List ℕ → Result Accepted NotCommitted → Shown → Type 0
Submits accepts old bytes (Ok answer) new =
    (old.stopped ≡ false) × ((next : World) × Leads accepts old bytes answer next × (new ≡ record old { ledgers = old.ledgers ++ next ∷ [] }))
Submits accepts old bytes (Err (Refused refused)) new = (old.stopped ≡ false) × IsRefused (newest old) bytes refused × (new ≡ old)
Submits accepts old bytes (Err MemoryInCommit) new =
    (old.stopped ≡ false) × ((answer : Accepted) × (next : World) × Leads accepts old bytes answer next) × (new ≡ record old { stopped = true })
Submits accepts old bytes (Err Stopped) new = (old.stopped ≡ true) × (new ≡ old)

-- an answer that isn't out of memory
abbrev pub HadMemory : Result Accepted NotCommitted → Type 0
HadMemory answer = (answer ≢ Err (Refused Memory)) × (answer ≢ Err MemoryInCommit)

-- byte strings one after the other
abbrev pub Runs : Accepts → Shown → List (List ℕ) → List (Result Accepted NotCommitted) → Shown → Type 0
Runs accepts = InTurn (Submits accepts)

-- ---- handles

-- A query at a handle that knows of a height: its answer is that of one ledger that was shown, of that height or a
-- greater one, and from then on the handle knows of this.
pub record Queries {A : Type 0} (s : Shown) (known : ℕ) (question : World → A) (r : Reply A) (known' : ℕ) : Type 0 where
  pub ledger : World
  pub shown : ledger_at s r.height ≡ Some ledger
  pub answer : r ≡ reply ledger (question ledger)
  pub no_earlier : known ≤ r.height
  pub knows : known' ≡ r.height

-- A handle that catches up to a height, as `learn` does to that of a receipt, knows of this or a greater one, and of
-- none below what it knew.
abbrev pub CatchesUp : ℕ → ℕ → ℕ → Type 0
CatchesUp known height known' = (known ≤ known') × (height ≤ known')
