use Rattle.std.proofs.Common.{◌≡◌, drop}
use Rattle.std.specs.List.{list_any}
use Rattle.std.specs.Str.{bytes_eq}
use Rattle.plain.specs.Keys.{keys_of}
use Rattle.plain.proofs.endorsement.has_key_in.Given as goal

abbrev pub invariant-loop-key : goal.invariant-loop-key
invariant-loop-key l = list_any (λ k. bytes_eq l.namespace k.0) (keys_of l.keys) ≡ list_any (λ k. bytes_eq l.namespace k.0) (keys_of (drop l.key-index l.keys))
