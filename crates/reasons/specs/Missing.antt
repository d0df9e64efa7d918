-- Who is missing where signers don't satisfy a policy, said along its text.
use Rattle.std.specs.Prelude.{◌≡◌, ◌⊎◌, List, Bool, true, false, None}
use Rattle.transaction.specs.declared.identity.Identity.{Identity}
use Rattle.policy.specs.declared.tree.Principal.{Principal}
use Rattle.policy.specs.Tree.{Tree, Trees, principal, gate, none, more}
use Rattle.policy_eval.specs.Evaluation.{first_free, Answers}

abbrev mutual
  -- From the set used, this principal is left without a signer.
  pub Misses : Tree → List Identity → List Bool → Principal → Type 0
  -- itself, where no free signer satisfies it
  Misses (principal org role) signers used p = (first_free org role signers used ≡ None) × (p ≡ record { org = org; role = role })
  -- of a gate that isn't satisfied, that of its first member that isn't
  Misses (gate threshold members) signers used p =
      (after : List Bool) × Answers (gate threshold members) signers used false after × FirstMisses members signers used p

  -- Members that are satisfied stand before it, and have taken their signers.
  pub FirstMisses : Trees → List Identity → List Bool → Principal → Type 0
  FirstMisses none signers used p = ⊥
  FirstMisses (more member members) signers used p =
      Misses member signers used p ⊎ ((after : List Bool) × Answers member signers used true after × FirstMisses members signers after p)
