-- Rows that were looked up, at the place of a key.
use Rattle.std.proofs.Common.{◌≡◌, ◌<◌, ℕ, List, Option, length, get_or, sym, ap, ◌∙◌, Bor}
use Rattle.std.specs.Option.{option_copied}
use Rattle.std.specs.FinMap.{get}
use Rattle.std.proofs.lemmas.List.{get_or-map}
use Rattle.rules.specs.declared.row.Row.{Row}
use Rattle.rules.specs.State.{State, StateKey}
use Rattle.state_db.specs.LookedUp.{AreRows}

pub row_at_key : (s : State) (keys : List StateKey) (rows : List (Option (Bor Row))) (n : ℕ) (k : StateKey) (r : Option (Bor Row)) → AreRows s keys rows
    → n < length keys → k ≡ get_or keys n k → n < length rows → r ≡ get_or rows n r → option_copied r ≡ get s k
row_at_key s keys rows n k r are key_lt key_is row_lt row_is =
    ap (λ (o : Option (Bor Row)). option_copied o) row_is
    ∙ sym (get_or-map option_copied rows n r (get s k) row_lt)
    ∙ ap (λ (l : List (Option Row)). get_or l n (get s k)) are
    ∙ get_or-map (get s) keys n k (get s k) key_lt
    ∙ ap (get s) (sym key_is)
