-- Injective codes of candidates and jobs, which the prover asks of a type that contracts see.
use Rattle.std.specs.Prelude.{◌≡◌, ◌⊎◌, ℕ, List, Option, refl}
use Rattle.std.proofs.Common.{inl, inr}
use Rattle.std.specs.Coded.{Coded, codes, coded×, coded_list, coded_ℕ, code_by}
use Rattle.transaction.specs.declared.transaction.Tx.{Tx}
use Rattle.transaction.specs.declared.identity.Identity.{Identity}
use Rattle.transaction.specs.declared.update.Update.{Update}
use Rattle.policy.specs.Tree.{Tree, tree_code}
use Rattle.policy.specs.Policies.{Policies, policies_code}
use Rattle.rules.specs.declared.early_flag.EarlyFlag.{EarlyFlag}
use Rattle.rules.specs.State.{State}
use Rattle.rules.specs.Code.{state_code}
use Rattle.rules.specs.Candidate.{Candidate, flagged, opened, updates}
use Rattle.rules.specs.Job.{Job}

abbrev split : Candidate → EarlyFlag ⊎ ((Tx × List Identity) ⊎ (Update × List Identity))
split (flagged f) = inl f
split (opened t signers) = inr (inl (t, signers))
split (updates u signers) = inr (inr (u, signers))

abbrev join : EarlyFlag ⊎ ((Tx × List Identity) ⊎ (Update × List Identity)) → Candidate
join (inl f) = flagged f
join (inr (inl p)) = opened p.0 p.1
join (inr (inr p)) = updates p.0 p.1

join-split : (c : Candidate) → join (split c) ≡ c
join-split (flagged f) = refl
join-split (opened t signers) = refl
join-split (updates u signers) = refl

pub candidate_code : Coded Candidate
candidate_code =
    code_by (EarlyFlag ⊎ ((Tx × List Identity) ⊎ (Update × List Identity))) (Prim.hlevel codes) split join join-split

pub job_code : Coded Job
job_code =
    code_by (ℕ × (State × (Policies × (Option Tree × List Candidate)))) (coded× coded_ℕ (coded× state_code (coded× policies_code (coded× (Prim.hlevel (codes, tree_code)) (coded_list candidate_code)))))
    (λ j. (j.number, (j.state, (j.definitions, (j.admin, j.candidates))))) (λ p. record { number = p.0; state = p.1.0; definitions = p.1.1.0; admin = p.1.1.1.0; candidates = p.1.1.1.1 }) (λ _. refl)
