-- Rows that a range lends, out of rows in order. No public contract cites this.
use Rattle.std.specs.Prelude.{ℕ, Bool, ◌&&◌, List, [], ◌∷◌, if◌then◌else◌}
use Rattle.std.specs.Str.{bytes_eq}
use Rattle.rules.specs.declared.row.Row.{Row}
use Rattle.rules.specs.Ranges as ranges
use Rattle.rules.specs.State.{StateKey}
use Rattle.state_db.specs.Search.{Keyed, is_below}
use Rattle.state_db.specs.Pages.{RowList}

-- of the namespace, and before the end
abbrev pub is_before : List ℕ → List ℕ → Keyed Row → Bool
is_before namespace end e = bytes_eq namespace e.0.0 && ranges.is_below e.0.1 end

-- from the first row on that isn't before the key
abbrev pub from_key : StateKey → RowList → RowList
from_key k [] = []
from_key k (e ∷ es) = if is_below k e then from_key k es else e ∷ es

-- up to before the first row that isn't of the namespace, or isn't before the end
abbrev pub in_front : List ℕ → List ℕ → RowList → RowList
in_front namespace end [] = []
in_front namespace end (e ∷ es) = if is_before namespace end e then e ∷ in_front namespace end es else []
