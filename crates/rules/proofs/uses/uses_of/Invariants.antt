use Rattle.std.proofs.Common.{◌≡◌, ◌++◌, drop}
use Rattle.rules.specs.Commit.{uses_from}
use Rattle.rules.specs.Delta.{uses_in}
use Rattle.rules.specs.Fold.{flags}
use Rattle.rules.specs.Job.{Job}
use Rattle.rules.proofs.uses.uses_of.Given as goal

abbrev pub invariant-loop-place : goal.invariant-loop-place
invariant-loop-place l =
    (j : Job) → j.number ≡ l.block → l.flags ≡ flags j → uses_from j 0 l.ids ≡ uses_in l.uses.items ++ uses_from j l.place (drop l.place l.ids)
