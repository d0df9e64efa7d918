use Rattle.std.proofs.Common.{◌≡◌, ℕ, List, length, map, sym, ap, ◌∙◌}
use Rattle.std.proofs.lemmas.List.{length-map}
use Rattle.candidates.specs.Seen.{seen}
use Rattle.rules.specs.Candidate.{Candidate}
use Rattle.rules.specs.Job.{Job}
use Rattle.key_chains.specs.Operations.{operations}
use Rattle.key_chains.specs.Older.{older_than}
use Rattle.key_chains.proofs.OlderOperations.{older_operations}
use Rattle.key_chains.proofs.job.Job.operations_before.Goals as goal

pub returns : goal.returns
returns c =
    let cs : List Candidate = map seen c.self.inside.candidates.items in
    let many : length c.self.inside.candidates.items ≡ length cs = sym (length-map c.self.inside.candidates.items seen) in
    c.before-2.ensures
    ∙ ap (older_than c.args.i) (c.chain.ensures ∙ c.newest_on-newest.ensures.list ∙ c.self.invariant.1.operations c.args.key.now ∙ ap (λ (n : ℕ). operations cs c.args.key.now n) many)
    ∙ older_operations cs c.args.key.now c.args.i
    ∙ ap (λ (j : Job). operations j.candidates c.args.key.now c.args.i) c.self.view_is
