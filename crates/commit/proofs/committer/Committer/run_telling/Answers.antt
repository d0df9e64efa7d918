use Rattle.std.proofs.Common.{◌∙◌, List, ℕ, subst}
use Rattle.commit.specs.Committing.{Committing}
use Rattle.commit.specs.Running.{committing}
use Rattle.commit.specs.Telling.{RunsTelling}
use Rattle.commit.proofs.committer.Committer.run_telling.Goals as goal

pub returns-clause-told : goal.returns-clause-told
returns-clause-told g c =
    let accepts = g.V.Verify.accepts c.args.verifier.now in
    let old = committing c.self.inside.channel c.self.inside.published in
    let new = committing c.self.inside.channel c.run_all.new.published in
    subst (λ (before : Committing). RunsTelling (goal.F-step g) accepts before c.args.blocks.now c.args.tell.now c.run_all.result new c.run_all.new.tell) c.self.view_is
    (subst (λ (blocks : List (List ℕ)). RunsTelling (goal.F-step g) accepts old blocks c.args.tell.now c.run_all.result new c.run_all.new.tell) (c.as_slice.ensures.value ∙ c.in_ok-blocks.ensures) c.run_all.ensures.told)
