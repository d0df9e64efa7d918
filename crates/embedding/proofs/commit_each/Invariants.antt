use Rattle.std.proofs.Common.{◌≡◌}
use Rattle.embedding.proofs.commit_each.Given as goal

abbrev pub invariant-loop-block : goal.invariant-loop-block
invariant-loop-block g l = l.own.book ≡ l.committer.book
