-- Ways to list what a block changes: its changes one by one or net, the uses of all its ids or of the new ones alone.
use Rattle.std.specs.Prelude.{◌≡◌, ◌⊎◌, ℕ, List, [], ◌∷◌, length, map, false, if◌then◌else◌, Option}
use Rattle.std.specs.FinMap.{get, contains_key, insert}
use Rattle.transaction.specs.declared.item.Item.{Item}
use Rattle.policy_eval.specs.Accepts.{Accepts}
use Rattle.channel.specs.Configuration.{Configuration}
use Rattle.rules.specs.declared.committed.CommittedBlock.{CommittedBlock}
use Rattle.rules.specs.declared.delta.Delta.{Delta}
use Rattle.rules.specs.declared.first_use.FirstUse.{FirstUse}
use Rattle.rules.specs.declared.row.Row.{Row}
use Rattle.rules.specs.State.{StateKey, ChangeOf, is_among}
use Rattle.rules.specs.FirstUses.{FirstUses}
use Rattle.rules.specs.Candidate.{used_id}
use Rattle.rules.specs.Job.{Job}
use Rattle.rules.specs.Fold.{final_state, changes_to, entries_to, definitions_to}
use Rattle.rules.specs.World.{World}
use Rattle.rules.specs.Commit.{job_of, uses_from}
use Rattle.rules.specs.Delta.{changes_in, entries_in, uses_in, definitions_in}

-- each change of each valid candidate, in order
abbrev pub AreSingleChanges : Job → List (ChangeOf Row) → Type 0
AreSingleChanges j cs = cs ≡ changes_to j (length j.candidates)

-- for each key that has something else after the block than before it, and for other keys at will, what it has after the block
pub record AreNetChanges (j : Job) (cs : List (ChangeOf Row)) : Type 0 where
  pub rows : cs ≡ map (λ c. (c.0, get (final_state j) c.0)) cs
  pub keys : (k : StateKey) → is_among k (map (λ c. c.0) cs) ≡ false → get (final_state j) k ≡ get j.state k

-- the uses that count: of each id that has none yet, the first
abbrev pub new_uses : FirstUses → List (List ℕ × FirstUse) → List (List ℕ × FirstUse)
new_uses uses [] = []
new_uses uses (u ∷ us) = if contains_key uses u.0 then new_uses uses us else u ∷ new_uses (insert uses u.0 u.1) us

-- the delta lists what the block changes, in any of these ways
pub record IsListing (channel : Configuration) (accepts : Accepts) (w : World) (items : List (Option Item)) (kept : CommittedBlock) (d : Delta) : Type 0 where
  pub changes : AreSingleChanges (job_of channel accepts w items) (changes_in d.changes) ⊎ AreNetChanges (job_of channel accepts w items) (changes_in d.changes)
  -- of the valid candidates, in order
  pub entries : entries_in d.entries ≡ entries_to (job_of channel accepts w items) (length (job_of channel accepts w items).candidates)
  -- of all candidates, valid or not
  pub uses : (uses_in d.uses ≡ uses_from (job_of channel accepts w items) 0 (map (used_id channel accepts) items))
      ⊎ (uses_in d.uses ≡ new_uses w.first_uses (uses_from (job_of channel accepts w items) 0 (map (used_id channel accepts) items)))
  -- of the valid candidates, in order
  pub definitions : definitions_in d.definitions ≡ definitions_to (job_of channel accepts w items) (length (job_of channel accepts w items).candidates)
  pub block : d.block ≡ kept
