-- The change of one block as plain data.
use Rattle.std.specs.Prelude.{◌≡◌, ℕ, Bool, ◌||◌, IsTrue, List, [], ◌∷◌, ◌++◌, map, Option, Some, None, is_some}
use Rattle.std.specs.FinMap.{get}
use Rattle.std.specs.List.{list_all}
use Rattle.std.specs.List.Sorted.{IsStrictlySortedBy}
use Rattle.transaction.specs.declared.item.Item.{Item}
use Rattle.policy.specs.Tree.{Tree}
use Rattle.policy_eval.specs.Accepts.{Accepts}
use Rattle.channel.specs.Configuration.{Configuration}
use Rattle.rules.specs.declared.committed.CommittedBlock.{CommittedBlock}
use Rattle.rules.specs.declared.delta.Change.{Change}
use Rattle.rules.specs.declared.delta.Change.TheVariants.{Put, Remove}
use Rattle.rules.specs.declared.delta.NewEntry.{NewEntry}
use Rattle.rules.specs.declared.delta.NewUse.{NewUse}
use Rattle.rules.specs.declared.delta.NewDefinition.{NewDefinition}
use Rattle.rules.specs.declared.delta.Delta.{Delta}
use Rattle.rules.specs.declared.first_use.FirstUse.{FirstUse}
use Rattle.rules.specs.declared.history.HistoryEntry.{HistoryEntry}
use Rattle.rules.specs.declared.row.Row.{Row}
use Rattle.rules.specs.State.{StateKey, State, ChangeOf, key_cmp, with_changes}
use Rattle.rules.specs.History.{with_entries}
use Rattle.rules.specs.FirstUses.{with_uses}
use Rattle.rules.specs.Definitions.{with_definitions}
use Rattle.rules.specs.World.{World}
use Rattle.rules.specs.Commit.{committed}

abbrev pub change_of : Change → ChangeOf Row
change_of (Put r) = (r.0, Some r.1)
change_of (Remove key) = (key, None)

abbrev pub changes_in : List Change → List (ChangeOf Row)
changes_in cs = map change_of cs

abbrev pub entries_in : List NewEntry → List (StateKey × HistoryEntry)
entries_in es = map (λ e. (e.key, e.entry)) es

abbrev pub uses_in : List NewUse → List (List ℕ × FirstUse)
uses_in us = map (λ u. (u.id, u.first_use)) us

abbrev pub definitions_in : List NewDefinition → List (List ℕ × Tree)
definitions_in ds = map (λ d. (d.chaincode, d.policy)) ds

-- the change puts a row, or removes one that is there
abbrev pub is_real : State → ChangeOf Row → Bool
is_real s c = is_some c.1 || is_some (get s c.0)

-- Changes of a state that say no more than they must: one of a key, in the order of the keys, and none that removes a key which has
-- no row.
pub record AreRealChanges (s : State) (cs : List (ChangeOf Row)) : Type 0 where
  pub rising : IsStrictlySortedBy key_cmp (map (λ c. c.0) cs)
  pub real : IsTrue (list_all (is_real s) cs)

-- the world with a delta applied
abbrev pub applied : World → Delta → World
applied w d = record {
  state = with_changes w.state (changes_in d.changes);
  history = with_entries w.history (entries_in d.entries);
  first_uses = with_uses w.first_uses (uses_in d.uses);
  definitions = with_definitions w.definitions (definitions_in d.definitions);
  blocks = w.blocks ++ d.block ∷ [];
}

-- A delta of the block of these items, over this world and kept so: what it makes of the world, part by part, is
-- what the block makes of it.
pub record IsDelta (channel : Configuration) (accepts : Accepts) (w : World) (items : List (Option Item)) (kept : CommittedBlock) (d : Delta) : Type 0 where
  pub state : (applied w d).state ≡ (committed channel accepts w items kept).state
  pub history : (applied w d).history ≡ (committed channel accepts w items kept).history
  pub first_uses : (applied w d).first_uses ≡ (committed channel accepts w items kept).first_uses
  pub definitions : (applied w d).definitions ≡ (committed channel accepts w items kept).definitions
  pub block : d.block ≡ kept
