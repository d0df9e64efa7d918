-- Injective codes of states and worlds, which the prover asks of a type that contracts see.
use Rattle.std.specs.Prelude.{List, refl}
use Rattle.std.specs.Coded.{Coded, coded×, coded_list, coded_ℕ, code_by}
use Rattle.std.specs.FinMap as map
use Rattle.policy.specs.Policies.{Policies, policies_code}
use Rattle.rules.specs.contracts.row.Row as row
use Rattle.rules.specs.contracts.history.HistoryEntry as entry
use Rattle.rules.specs.contracts.first_use.FirstUse as first_use
use Rattle.rules.specs.contracts.committed.CommittedBlock as committed
use Rattle.rules.specs.declared.committed.CommittedBlock.{CommittedBlock}
use Rattle.rules.specs.declared.row.Row.{Row}
use Rattle.rules.specs.State.{StateKey, State}
use Rattle.rules.specs.History.{History}
use Rattle.rules.specs.FirstUses.{FirstUses}
use Rattle.policy.specs.Policies.{Policies, policies_code}
use Rattle.rules.specs.World.{World}

abbrev pub key_code : Coded StateKey
key_code = coded× (coded_list coded_ℕ) (coded_list coded_ℕ)

-- rows with their keys
abbrev pub keyed_row_code : Coded (StateKey × Row)
keyed_row_code = coded× key_code (row.the_row).coded

abbrev pub state_code : Coded State
state_code = map.code key_code (row.the_row).coded

abbrev pub history_code : Coded History
history_code = map.code key_code (coded_list (entry.the_row).coded)

abbrev pub first_uses_code : Coded FirstUses
first_uses_code = map.code (coded_list coded_ℕ) (first_use.the_row).coded

abbrev pub world_code : Coded World
world_code =
    code_by (State × (History × (FirstUses × (Policies × List CommittedBlock))))
    (coded× state_code (coded× history_code (coded× first_uses_code (coded× policies_code (coded_list (committed.the_row).coded)))))
    (λ w. (w.state, (w.history, (w.first_uses, (w.definitions, w.blocks)))))
    (λ p. record { state = p.0; history = p.1.0; first_uses = p.1.1.0; definitions = p.1.1.1.0; blocks = p.1.1.1.1 }) (λ _. refl)
