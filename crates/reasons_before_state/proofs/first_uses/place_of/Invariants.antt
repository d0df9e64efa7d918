use Rattle.std.proofs.Common.{◌≡◌, ◌+◌, drop, position, option_map, option_to_list}
use Rattle.std.specs.List.{list_any}
use Rattle.std.specs.Str.{bytes_eq}
use Rattle.reasons_before_state.proofs.first_uses.place_of.Given as goal

abbrev pub invariant-loop-place : goal.invariant-loop-place
invariant-loop-place l = position (λ used. list_any (bytes_eq l.id) (option_to_list used)) l.ids ≡ option_map (λ n. l.place + n) (position (λ used. list_any (bytes_eq l.id) (option_to_list used)) (drop l.place l.ids))
