use Rattle.std.proofs.Common.{◌≡◌, drop, map}
use Rattle.std.specs.List.{list_any}
use Rattle.std.specs.Str.{bytes_eq}
use Rattle.endorsement_check.proofs.writes.has_writes.Given as goal

abbrev pub invariant-loop-write : goal.invariant-loop-write
invariant-loop-write l = list_any (λ k. bytes_eq l.namespace k.0) (map (λ w. w.key) l.written) ≡ list_any (λ k. bytes_eq l.namespace k.0) (map (λ w. w.key) (drop l.write-index l.written))
