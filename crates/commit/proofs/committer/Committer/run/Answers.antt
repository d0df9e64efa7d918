use Rattle.std.proofs.Common.{◌∙◌, List, ℕ, subst}
use Rattle.commit.specs.Committing.{Committing, Runs}
use Rattle.commit.specs.Running.{committing}
use Rattle.commit.proofs.committer.Committer.run.Goals as goal

pub returns-clause-runs : goal.returns-clause-runs
returns-clause-runs g c =
    let accepts = g.V.Verify.accepts c.args.verifier.now in
    let old = committing c.self.inside.channel c.self.inside.published in
    let new = committing c.self.inside.channel c.collect_all.new.published in
    let answers = c.collect_all.new.answers.items in
    subst (λ (before : Committing). Runs accepts before c.args.blocks.now answers new) c.self.view_is
    (subst (λ (blocks : List (List ℕ)). Runs accepts old blocks answers new) (c.as_slice.ensures.value ∙ c.in_ok-blocks.ensures) c.collect_all.ensures.runs)
