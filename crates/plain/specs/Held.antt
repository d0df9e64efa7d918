-- What a world holds, its blocks aside.
use Rattle.std.specs.Prelude.{◌≡◌, ℕ, List, refl}
use Rattle.std.specs.Coded.{Coded, code_by, coded×}
use Rattle.std.specs.FinMap.{empty}
use Rattle.policy.specs.Tree.{Tree}
use Rattle.policy.specs.Policies.{Policies, policies_code}
use Rattle.rules.specs.declared.row.Row.{Row}
use Rattle.rules.specs.declared.history.HistoryEntry.{HistoryEntry}
use Rattle.rules.specs.declared.first_use.FirstUse.{FirstUse}
use Rattle.rules.specs.State.{StateKey, State, ChangeOf, with_changes}
use Rattle.rules.specs.History.{History, with_entries}
use Rattle.rules.specs.FirstUses.{FirstUses, with_uses}
use Rattle.rules.specs.Definitions.{with_definitions}
use Rattle.rules.specs.World.{World, height_of}
use Rattle.rules.specs.Code.{state_code, history_code, first_uses_code}

pub record Held : Type 0 where
  pub state : State
  pub history : History
  pub first_uses : FirstUses
  pub definitions : Policies

abbrev pub held_code : Coded Held
held_code =
    code_by (State × (History × (FirstUses × Policies))) (coded× state_code (coded× history_code (coded× first_uses_code policies_code)))
    (λ h. (h.state, (h.history, (h.first_uses, h.definitions)))) (λ p. record { state = p.0; history = p.1.0; first_uses = p.1.1.0; definitions = p.1.1.1 }) (λ _. refl)

abbrev pub held_in : World → Held
held_in w = record { state = w.state; history = w.history; first_uses = w.first_uses; definitions = w.definitions }

-- the world holds this, and its next block has this number
abbrev pub IsBefore : World → ℕ → Held → Type 0
IsBefore w number h = (height_of w ≡ number) × (held_in w ≡ h)

-- what it holds after changes, entries, uses and definitions, one after the other
abbrev pub held_after : Held → List (ChangeOf Row) → List (StateKey × HistoryEntry) → List (List ℕ × FirstUse) → List (List ℕ × Tree) → Held
held_after h changes entries uses definitions = record {
  state = with_changes h.state changes;
  history = with_entries h.history entries;
  first_uses = with_uses h.first_uses uses;
  definitions = with_definitions h.definitions definitions;
}

-- what all changes, entries and uses make, where chaincodes have these policies by now
abbrev pub made_of : Policies → List (ChangeOf Row) → List (StateKey × HistoryEntry) → List (List ℕ × FirstUse) → Held
made_of definitions changes entries uses = record {
  state = with_changes empty changes;
  history = with_entries empty entries;
  first_uses = with_uses empty uses;
  definitions = definitions;
}

-- what is held before all blocks, where chaincodes have these policies
abbrev pub nothing_but : Policies → Held
nothing_but definitions = record { state = empty; history = empty; first_uses = empty; definitions = definitions }
