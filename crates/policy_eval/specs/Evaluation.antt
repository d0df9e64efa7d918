-- Whether signers satisfy a policy (Fabric documentation, 'Endorsement policies'; the order of evaluation is our own).
-- Evaluation goes from left to right with a set of used signers, which is the list of marks at the signers' places.
use Rattle.std.specs.Prelude.{◌≡◌, ℕ, ◌+◌, ◌<◌, ◌≤◌, List, length, Bool, true, false, not, ◌&&◌, if◌then◌else◌, Option, Some, None, slice_set, replicate, position}
use Rattle.std.specs.Str.{bytes_eq}
use Rattle.std.specs.List.{zip}
use Rattle.transaction.specs.declared.identity.Role.{Role}
use Rattle.transaction.specs.declared.identity.Role.TheVariants as held
use Rattle.transaction.specs.declared.identity.Identity.{Identity}
use Rattle.policy.specs.declared.tree.PolicyRole.{PolicyRole}
use Rattle.policy.specs.declared.tree.PolicyRole.TheVariants as wanted
use Rattle.policy.specs.Tree.{Tree, Trees, principal, gate, none, more}

-- member is filled by every role, any other by itself alone
abbrev pub fills : PolicyRole → Role → Bool
fills wanted.Member role = true
fills wanted.Admin held.Admin = true
fills wanted.Client held.Client = true
fills wanted.Peer held.Peer = true
fills wanted.Orderer held.Orderer = true
fills _ _ = false

-- an identity satisfies a principal: it is of the organization and fills the role
abbrev pub satisfies : List ℕ → PolicyRole → Identity → Bool
satisfies org role identity = bytes_eq org identity.org && fills role identity.role

-- the place of the first signer that isn't used and satisfies the principal
abbrev pub first_free : List ℕ → PolicyRole → List Identity → List Bool → Option ℕ
first_free org role signers used = position (λ s. not s.1 && satisfies org role s.0) (zip signers used)

abbrev mutual
  -- From the set used, the tree answers, and leaves the set after.
  pub Answers : Tree → List Identity → List Bool → Bool → List Bool → Type 0
  -- a principal takes the first free signer
  Answers (principal org role) signers used true after =
      (place : ℕ) × (first_free org role signers used ≡ Some place) × (after ≡ slice_set used place true)
  Answers (principal org role) signers used false after = (first_free org role signers used ≡ None) × (after ≡ used)
  -- Every member of a gate is tried, also once enough held. A gate holds where enough of them do, and keeps what all of them
  -- took; else it gives all of it back.
  Answers (gate threshold members) signers used true after = (count : ℕ) × AllAnswer members signers used count after × (threshold ≤ count)
  Answers (gate threshold members) signers used false after =
      (count : ℕ) × (last : List Bool) × AllAnswer members signers used count last × (count < threshold) × (after ≡ used)

  -- Every member in order, of which so many answer yes.
  pub AllAnswer : Trees → List Identity → List Bool → ℕ → List Bool → Type 0
  AllAnswer none signers used count after = (count ≡ 0) × (after ≡ used)
  AllAnswer (more member members) signers used count after =
      (answer : Bool) × (mid : List Bool) × (others : ℕ) × Answers member signers used answer mid
      × AllAnswer members signers mid others after × (count ≡ (if answer then 1 else 0) + others)

abbrev pub none_used : List Identity → List Bool
none_used signers = replicate (length signers) false

-- the policy answers yes from the empty set
abbrev pub Satisfied : Tree → List Identity → Type 0
Satisfied policy signers = (after : List Bool) × Answers policy signers (none_used signers) true after
