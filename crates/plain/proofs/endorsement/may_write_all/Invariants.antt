use Rattle.std.proofs.Common.{◌≡◌, drop}
use Rattle.std.specs.List.{list_all}
use Rattle.rules.specs.Endorsement.{may_write}
use Rattle.plain.specs.Keys.{keys_of}
use Rattle.plain.proofs.endorsement.may_write_all.Given as goal

abbrev pub invariant-loop-key : goal.invariant-loop-key
invariant-loop-key l =
    list_all (may_write l.definitions l.world.state (keys_of l.touched) l.signers) (keys_of l.keys)
    ≡ list_all (may_write l.definitions l.world.state (keys_of l.touched) l.signers) (keys_of (drop l.key-index l.keys))
