-- What signers lack who don't satisfy a policy.
use Rattle.std.specs.Prelude.{List, Bool, true, false, not, map, filter, is_some, if◌then◌else◌, Option, Some, None}
use Rattle.std.specs.List.{list_any}
use Rattle.std.specs.Option.{option_or}
use Rattle.transaction.specs.declared.identity.Identity.{Identity}
use Rattle.transaction.specs.declared.transaction.Endorsement.{Endorsement}
use Rattle.transaction.specs.Same.{is_same_identity}
use Rattle.policy.specs.declared.tree.PolicyRole.{PolicyRole}
use Rattle.policy.specs.declared.tree.PolicyRole.TheVariants.{Member}
use Rattle.policy.specs.declared.tree.Principal.{Principal}
use Rattle.policy.specs.Tree.{Tree, Trees, principal, gate, none, more}
use Rattle.policy_eval.specs.Evaluation.{first_free, none_used}
use Rattle.policy_eval.specs.Evaluating.{evaluate, is_satisfied}
use Rattle.policy_eval.specs.Signers.{each_once}
use Rattle.reasons.specs.declared.shortfall.Shortfall.{Shortfall}

-- the endorsers that aren't signers, since none of their signatures is accepted, each at its first place
abbrev pub refused_of : List Endorsement → List Identity → List Identity
refused_of endorsements signers = each_once (filter (λ e. not (list_any (λ s. is_same_identity s e) signers)) (map (λ e. e.endorser) endorsements))

-- ---- who is missing

abbrev mutual
  -- From the set used, the principal that takes no signer; of a gate that isn't satisfied, that of its first member that isn't.
  pub missing_from : Tree → List Identity → List Bool → Option Principal
  missing_from (principal org role) signers used = if is_some (first_free org role signers used) then None else Some (record { org = org; role = role })
  missing_from (gate threshold members) signers used =
      if (evaluate (gate threshold members) signers used).0 then None else first_missing members signers used

  pub first_missing : Trees → List Identity → List Bool → Option Principal
  first_missing none signers used = None
  first_missing (more member members) signers used =
      option_or (missing_from member signers used) (first_missing members signers (evaluate member signers used).1)

-- ---- whether another order would do

abbrev pub asks_any_role : PolicyRole → Bool
asks_any_role Member = true
asks_any_role _ = false

-- a principal that each role fills
abbrev pub is_wide : Tree → Bool
is_wide (principal org role) = asks_any_role role
is_wide (gate threshold members) = false

abbrev pub wide_of : Trees → Trees
wide_of none = none
wide_of (more member members) = if is_wide member then more member (wide_of members) else wide_of members

-- The same policy, but that each of its gates asks its wide principals last.
abbrev mutual
  pub wide_last : Tree → Tree
  wide_last (principal org role) = principal org role
  wide_last (gate threshold members) = gate threshold (others_before (wide_of members) members)

  -- the members that aren't wide, and then these
  pub others_before : Trees → Trees → Trees
  others_before wide none = wide
  others_before wide (more member members) = if is_wide member then others_before wide members else more (wide_last member) (others_before wide members)

-- ---- all of it

abbrev pub shortfall_of : List Endorsement → List Identity → Tree → Shortfall
shortfall_of endorsements signers policy = record {
  policy = policy;
  signers = signers;
  refused = refused_of endorsements signers;
  missing = missing_from policy signers (none_used signers);
  another_order = is_satisfied (wide_last policy) signers;
}
