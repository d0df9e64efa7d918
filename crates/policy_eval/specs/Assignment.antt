-- Which signer each principal of a satisfied policy took.
use Rattle.std.specs.Prelude.{◌≡◌, ◌≢◌, ℕ, ◌+◌, ◌<◌, List, [], ◌∷◌, ◌++◌, Bool, if◌then◌else◌, map, Option, Some, None, option_to_list, slice_get, AllPairs, IsTrue}
use Rattle.std.specs.List.{AllByRecursion}
use Rattle.transaction.specs.declared.identity.Identity.{Identity}
use Rattle.policy.specs.declared.tree.PolicyRole.{PolicyRole}
use Rattle.policy.specs.Tree.{Tree, Trees, principal, gate, none, more, leaves}
use Rattle.policy_eval.specs.Evaluation.{satisfies, first_free, none_used}
use Rattle.policy_eval.specs.Evaluating.{evaluate, is_satisfied}

abbrev mutual
  -- The principals that held and lie in no gate that failed, each with the place of its signer. Principals are numbered
  -- in the order of the text; the first one here has the number first.
  pub assigned : Tree → List Identity → List Bool → ℕ → List (ℕ × ℕ)
  assigned (principal org role) signers used first = map (λ place. (first, place)) (option_to_list (first_free org role signers used))
  assigned (gate threshold members) signers used first =
      if (evaluate (gate threshold members) signers used).0 then assigned_all members signers used first else []

  pub assigned_all : Trees → List Identity → List Bool → ℕ → List (ℕ × ℕ)
  assigned_all none signers used first = []
  assigned_all (more member members) signers used first =
      assigned member signers used first ++ assigned_all members signers (evaluate member signers used).1 (first + leaves member)

-- the assignment, or none where the policy isn't satisfied
abbrev pub assignment_of : Tree → List Identity → Option (List (ℕ × ℕ))
assignment_of policy signers = if is_satisfied policy signers then Some (assigned policy signers (none_used signers) 0) else None

-- ---- what an assignment is good for

-- the principals in the order of the text, each as an organization and a role
abbrev mutual
  pub principals : Tree → List (List ℕ × PolicyRole)
  principals (principal org role) = (org, role) ∷ []
  principals (gate threshold members) = all_principals members

  pub all_principals : Trees → List (List ℕ × PolicyRole)
  all_principals none = []
  all_principals (more member members) = principals member ++ all_principals members

-- a pair names a principal of the policy and the place of a signer that satisfies it
pub record IsServed (policy : Tree) (signers : List Identity) (pair : ℕ × ℕ) : Type 0 where
  pub asked : List ℕ × PolicyRole
  pub principal : slice_get (principals policy) pair.0 ≡ Some asked
  pub signer : Identity
  pub place : slice_get signers pair.1 ≡ Some signer
  pub satisfied : IsTrue (satisfies asked.0 asked.1 signer)

-- principals in the order of the text, each served by a signer of its own
pub record IsAssignment (policy : Tree) (signers : List Identity) (pairs : List (ℕ × ℕ)) : Type 0 where
  pub ordered : AllPairs (λ a b. a.0 < b.0) pairs
  pub distinct : AllPairs (λ a b. a.1 ≢ b.1) pairs
  pub served : AllByRecursion (IsServed policy signers) pairs
