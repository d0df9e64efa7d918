use Rattle.pieces.specs.Pieces.{IsMade}
use Rattle.commit.specs.Prepared.{MayBeTakenIn, MayBeTakenInPart}
use Rattle.commit.proofs.running.run_all.Given as goal

abbrev pub ghosts-commit_in_scope : goal.ghosts-commit_in_scope
ghosts-commit_in_scope g a = record {
  may_be = λ place taken. IsMade (MayBeTakenIn a.context.now.channel.now (g.V.Verify.accepts a.context.now.verifier.now)) a.blocks.now place taken;
  may_be_part = λ place count number part. IsMade (λ bytes part. MayBeTakenInPart a.context.now.channel.now (g.V.Verify.accepts a.context.now.verifier.now) bytes count number part) a.blocks.now place part;
}
