use Rattle.std.proofs.Common.{◌≡◌, map, drop}
use Rattle.std.specs.List.{list_any}
use Rattle.std.specs.Str.{bytes_eq}
use Rattle.plain.proofs.sets.is_among.Given as goal

abbrev pub invariant-loop-other : goal.invariant-loop-other
invariant-loop-other l = list_any (bytes_eq l.text) (map (λ other. other.now) l.others) ≡ list_any (bytes_eq l.text) (map (λ other. other.now) (drop l.other-index l.others))
