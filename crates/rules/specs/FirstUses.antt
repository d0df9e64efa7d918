-- Where each transaction id was used first.
use Rattle.std.specs.Prelude.{ℕ, List, [], ◌∷◌, if◌then◌else◌}
use Rattle.std.specs.FinMap.{FinMap, contains_key, insert}
use Rattle.values.specs.Order.{bytes_cmp}
use Rattle.rules.specs.declared.first_use.FirstUse.{FirstUse}

abbrev pub FirstUses : Type 0
FirstUses = FinMap {K = List ℕ} bytes_cmp FirstUse

-- the uses with more of them, one after the other; an id that is used already keeps its first use
unfoldable pub with_uses : FirstUses → List (List ℕ × FirstUse) → FirstUses
with_uses uses [] = uses
with_uses uses (u ∷ us) = with_uses (if contains_key uses u.0 then uses else insert uses u.0 u.1) us
