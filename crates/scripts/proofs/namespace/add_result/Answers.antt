use Rattle.std.proofs.Common.{◌-◌, refl, arith}
use Rattle.std.specs.Vec.{vec_len}
use Rattle.scripts.specs.Script as spec
use Rattle.scripts.proofs.Last.{last_set}
use Rattle.scripts.proofs.namespace.add_result.Goals as goal

pub returns-in-Some : goal.returns-in-Some
returns-in-Some c =
    last_set (spec.with_result c.args.found) c.args.ranges.now.items (vec_len c.args.ranges.now - 1) c.in-Some.last.now c.add_result.new.self c.add_result.result (omega (arith, c.in-Some.ensures.variant.0 refl, c.args.ranges.now.ok.0)) c.in-Some.ensures.value c.add_result.ensures
