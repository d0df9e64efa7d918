-- Reasons as records, and the bytes that these name: of one reason after the other first those that it names beside identities,
-- in the order of the record's pieces, and then its identities'.
use Rattle.std.specs.Prelude.{◌≡◌, ℕ, ◌+◌, List, [], ◌∷◌, ◌++◌, length, Option}
use Rattle.std.specs.List.{flat_map}
use Rattle.transaction.specs.Grammar.{role_byte}
use Rattle.transaction.specs.declared.identity.Identity.{Identity}
use Rattle.reasons.specs.declared.reason.Reason.{Reason}
use Rattle.reasons.specs.declared.reason.Reason.TheVariants.{BadSignature, OtherId}
use Rattle.reasons.specs.declared.shortfall.Shortfall.{Shortfall}
use Rattle.reason_lists.specs.declared.listing.ListedReasons.{ListedReasons}
use Rattle.reason_lists.specs.declared.places.Places.{Places}
use Rattle.reason_lists.specs.declared.pooled.PooledIdentity.{PooledIdentity}
use Rattle.reason_lists.specs.declared.pooled.PooledReason.{PooledReason}
use Rattle.reason_lists.specs.Places.{places_in}
use Rattle.reason_lists.specs.Said.{numbers}
use Rattle.reason_lists.specs.Shortfalls.{shortfall_in, signers_in, refused_in, policy_in, missing_in, missing_org}

-- ---- what a reason names beside identities

-- name, key, start, end
abbrev pub place_bytes : Places → List ℕ
place_bytes p = p.name ++ (p.key ++ (p.start ++ p.end))

abbrev pub with_places : ℕ → Places → PooledReason → PooledReason
with_places n p r = record r {
  name = record { at = n; len = length p.name };
  key = record { at = n + length p.name; len = length p.key };
  start = record { at = n + length p.name + length p.key; len = length p.start };
  end = record { at = n + length p.name + length p.key + length p.start; len = length p.end };
}

abbrev pub id_in : Reason → List ℕ
id_in (OtherId wanted) = wanted
id_in _ = []

-- id, policy, organization
abbrev pub text_bytes : Reason → Option Shortfall → List ℕ
text_bytes r lack = id_in r ++ (policy_in lack ++ missing_org (missing_in lack))

abbrev pub with_texts : ℕ → Reason → Option Shortfall → PooledReason → PooledReason
with_texts n r lack said = record said {
  id = record { at = n; len = length (id_in r) };
  policy = record { at = n + length (id_in r); len = length (policy_in lack) };
  missing_org = record { at = n + length (id_in r) + length (policy_in lack); len = length (missing_org (missing_in lack)) };
}

abbrev pub reason_bytes : Reason → List ℕ
reason_bytes r = place_bytes (places_in r) ++ text_bytes r (shortfall_in r)

-- the reason whose bytes begin at this place of the pool, of a block of this number
abbrev pub reason_at : ℕ → ℕ → Reason → PooledReason
reason_at number n r = with_texts (n + length (place_bytes (places_in r))) r (shortfall_in r) (with_places n (places_in r) (numbers number r (shortfall_in r)))

-- ---- identities

-- organization, label
abbrev pub identity_bytes : Identity → List ℕ
identity_bytes i = i.org ++ i.label

abbrev pub identity_at : ℕ → Identity → PooledIdentity
identity_at n i = record { org = record { at = n; len = length i.org }; label = record { at = n + length i.org; len = length i.label }; role = role_byte i.role }

-- those whose bytes stand one after the other from this place on
abbrev pub identities_from : ℕ → List Identity → List PooledIdentity
identities_from n [] = []
identities_from n (i ∷ identities) = identity_at n i ∷ identities_from (n + length (identity_bytes i)) identities

-- whose signatures were refused
abbrev pub refused_by : Reason → Option Shortfall → List Identity
refused_by (BadSignature creator) lack = creator ∷ []
refused_by _ lack = refused_in lack

abbrev pub signers_of : Reason → List Identity
signers_of r = signers_in (shortfall_in r)

abbrev pub refused_of : Reason → List Identity
refused_of r = refused_by r (shortfall_in r)

-- signers, and then who was refused
abbrev pub identity_list_bytes : Reason → List ℕ
identity_list_bytes r = flat_map identity_bytes (signers_of r) ++ flat_map identity_bytes (refused_of r)

abbrev pub reason_identities : ℕ → Reason → List PooledIdentity
reason_identities n r = identities_from n (signers_of r) ++ identities_from (n + length (flat_map identity_bytes (signers_of r))) (refused_of r)

-- the first of its identities is at this place of their list
abbrev pub with_identities : ℕ → Reason → PooledReason → PooledReason
with_identities m r said = record said { first_identity = m; signers = length (signers_of r); refused = length (refused_of r) }

-- ---- reasons in order

abbrev pub pooled_bytes : Reason → List ℕ
pooled_bytes r = reason_bytes r ++ identity_list_bytes r

abbrev pub identities_of : ℕ → Reason → List PooledIdentity
identities_of n r = reason_identities (n + length (reason_bytes r)) r

abbrev pub pooled_reason : ℕ → ℕ → ℕ → Reason → PooledReason
pooled_reason number n m r = with_identities m r (reason_at number n r)

abbrev pub reasons_pool : List Reason → List ℕ
reasons_pool reasons = flat_map pooled_bytes reasons

abbrev pub all_identities : ℕ → List Reason → List PooledIdentity
all_identities n [] = []
all_identities n (r ∷ reasons) = identities_of n r ++ all_identities (n + length (pooled_bytes r)) reasons

-- those whose bytes and identities begin at these places
abbrev pub reasons_from : ℕ → ℕ → ℕ → List Reason → List PooledReason
reasons_from number n m [] = []
reasons_from number n m (r ∷ reasons) = pooled_reason number n m r ∷ reasons_from number (n + length (pooled_bytes r)) (m + length (identities_of n r)) reasons

-- These reasons, of a block of this number, are listed.
pub record AreListed (number : ℕ) (reasons : List Reason) (l : ListedReasons) : Type 0 where
  pub of_number : l.number ≡ number
  pub pooled : l.pool ≡ reasons_pool reasons
  pub each : l.reasons ≡ reasons_from number 0 0 reasons
  pub named : l.identities ≡ all_identities 0 reasons
