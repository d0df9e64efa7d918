use Rattle.std.proofs.Common.{◌-◌, refl, arith}
use Rattle.std.specs.Vec.{vec_len}
use Rattle.scripts.specs.Script as spec
use Rattle.scripts.proofs.Last.{last_set}
use Rattle.scripts.proofs.namespaces.add_to_last.Goals as goal

pub returns-in-Some : goal.returns-in-Some
returns-in-Some c =
    last_set (spec.with_entry c.args.entry) c.args.namespaces.now.items (vec_len c.args.namespaces.now - 1) c.in-Some.last.now c.add.new.self c.add.result (omega (arith, c.in-Some.ensures.variant.0 refl, c.args.namespaces.now.ok.0)) c.in-Some.ensures.value c.add.ensures
