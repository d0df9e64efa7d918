-- Injective codes of what contracts see, which the prover requires.
use Rattle.std.specs.Prelude.{ℕ, List, refl}
use Rattle.std.specs.FinMap as map
use Rattle.std.specs.Coded.{Coded, coded×, coded_option, coded_list, coded_ℕ, code_by}
use Rattle.rules.specs.contracts.row.Row as row
use Rattle.rules.specs.declared.row.Row.{Row}
use Rattle.rules.specs.State.{ChangeOf, State}
use Rattle.state_db.specs.Batch.{Changes}
use Rattle.state_db.specs.Pages.{PagedState}
use Rattle.rules.specs.Code.{key_code, state_code}

abbrev pub change_code : Coded (ChangeOf Row)
change_code = coded× key_code (coded_option (row.the_row).coded)

abbrev pub changes_code : Coded Changes
changes_code = map.code key_code (coded_option (row.the_row).coded)

abbrev pub paged_code : Coded PagedState
paged_code = code_by (State × List ℕ) (coded× state_code (coded_list coded_ℕ)) (λ s. (s.state, s.sizes)) (λ p. record { state = p.0; sizes = p.1 }) (λ _. refl)
