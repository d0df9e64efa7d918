-- The definitions that updates give, after the next candidate.
use Rattle.std.proofs.Common.{◌≡◌, ℕ, suc, ◌+◌, List, [], ◌++◌, ap, ◌∙◌, arith}
use Rattle.std.specs.Prelude.{if◌then◌else◌}
use Rattle.rules.specs.declared.delta.NewDefinition.{NewDefinition}
use Rattle.rules.specs.declared.flag.Flag.{Flag}
use Rattle.rules.specs.Delta.{definitions_in}
use Rattle.rules.specs.Flags.{is_valid}
use Rattle.rules.specs.Candidate.{Candidate}
use Rattle.rules.specs.Job.{Job, candidate_at, definitions_by}
use Rattle.rules.specs.Fold.{flag, definitions_to}

pub given-next : (j : Job) (i : ℕ) (old new : List NewDefinition) (c : Candidate) (f : Flag) → c ≡ candidate_at j i → f ≡ flag j i
    → definitions_in new ≡ definitions_in old ++ (if is_valid f then definitions_by c else []) → definitions_in old ≡ definitions_to j i → definitions_in new ≡ definitions_to j (i + 1)
unfolding definitions_to
given-next j i old new c f is same more are =
    let one_on : suc i ≡ i + 1 = omega arith in
    more ∙ (λ k. are k ++ (if is_valid (same k) then definitions_by (is k) else [])) ∙ ap (definitions_to j) one_on

pub given-first : (j : Job) (ds : List NewDefinition) → ds ≡ [] → definitions_in ds ≡ definitions_to j 0
unfolding definitions_to
given-first j ds none = ap definitions_in none
