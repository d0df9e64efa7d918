use Rattle.std.proofs.Common.{◌≡◌, ℕ, List, length, map, sym, ap, ◌∙◌}
use Rattle.std.proofs.lemmas.List.{length-map}
use Rattle.candidates.specs.Seen.{seen}
use Rattle.rules.specs.Candidate.{Candidate}
use Rattle.rules.specs.Job.{Job}
use Rattle.key_chains.specs.PolicyWriters.{policy_writers}
use Rattle.key_chains.proofs.job.Job.policy_writers_of.Goals as goal

pub returns : goal.returns
returns c =
    let cs : List Candidate = map seen c.self.inside.candidates.items in
    let many : length c.self.inside.candidates.items ≡ length cs = sym (length-map c.self.inside.candidates.items seen) in
    c.chain.ensures ∙ c.newest_on.ensures.list ∙ c.self.invariant.1.policies c.args.key.now
    ∙ ap (λ (n : ℕ). policy_writers cs c.args.key.now n) many
    ∙ ap (λ (j : Job). policy_writers j.candidates c.args.key.now (length j.candidates)) c.self.view_is
