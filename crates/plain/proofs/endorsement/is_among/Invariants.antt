use Rattle.std.proofs.Common.{◌≡◌, drop}
use Rattle.rules.specs.State.{is_among}
use Rattle.plain.specs.Keys.{key_of, keys_of}
use Rattle.plain.proofs.endorsement.is_among.Given as goal

abbrev pub invariant-loop-other : goal.invariant-loop-other
invariant-loop-other l = is_among (key_of l.key) (keys_of l.keys) ≡ is_among (key_of l.key) (keys_of (drop l.other-index l.keys))
