use Rattle.std.proofs.Common.{refl}
use Rattle.rules.proofs.UseLists.{no_use_more, use_more}
use Rattle.rules.proofs.uses.uses_of.Goals as goal
use Rattle.rules.proofs.uses.uses_of.Goals.{in-Some+in_ok-push, in_default}

pub loop-place-preserved : goal.loop-place-preserved
loop-place-preserved c = λ j number are.
    elim c.match-id.branch [
      | in-Some+in_ok-push w ↦ rw w.uses-is (
          use_more j c.args.ids.now c.args.flags.now c.loop-place.place _ _ _ c.loop-place.uses.items w.push.new.self.items w.in-Some.id c.args.block
          c.loop-place-test.true c.requires.same number are w.in-Some.is refl w.in_ok-push.ensures.items (c.loop-place.invariant j number are))
      | in_default w ↦ rw w.uses-is (no_use_more j c.args.ids.now c.loop-place.place _ c.loop-place.uses.items c.loop-place-test.true w.in_default.is (c.loop-place.invariant j number are))
    ]
