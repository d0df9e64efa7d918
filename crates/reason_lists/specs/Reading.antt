-- What a caller reads out of records and their pool: all that the reasons say.
use Rattle.std.specs.Prelude.{◌≡◌, ℕ, ◌+◌, List, [], ◌∷◌, map, take, drop}
use Rattle.transaction.specs.Grammar.{role_byte}
use Rattle.transaction.specs.declared.identity.Identity.{Identity}
use Rattle.verdicts.specs.Said.{piece}
use Rattle.reasons.specs.declared.reason.Reason.{Reason}
use Rattle.reason_lists.specs.declared.places.Places.{Places}
use Rattle.reason_lists.specs.declared.pooled.PooledIdentity.{PooledIdentity}
use Rattle.reason_lists.specs.declared.pooled.PooledReason.{PooledReason}
use Rattle.reason_lists.specs.Places.{places_in}
use Rattle.reason_lists.specs.Pooled.{id_in, signers_of, refused_of}
use Rattle.reason_lists.specs.Said.{nowhere, numbers}
use Rattle.reason_lists.specs.Shortfalls.{shortfall_in, policy_in, missing_in, missing_org}

-- its numbers alone
abbrev pub without_places : PooledReason → PooledReason
without_places p = record p {
  name = nowhere;
  key = nowhere;
  start = nowhere;
  end = nowhere;
  id = nowhere;
  policy = nowhere;
  missing_org = nowhere;
  first_identity = 0;
  signers = 0;
  refused = 0;
}

abbrev pub places_read : List ℕ → PooledReason → Places
places_read pool p = record { name = piece pool p.name; key = piece pool p.key; start = piece pool p.start; end = piece pool p.end }

-- organization, role, label
abbrev pub Parts : Type 0
Parts = List ℕ × ℕ × List ℕ

abbrev pub parts_read : List ℕ → PooledIdentity → Parts
parts_read pool i = (piece pool i.org, i.role, piece pool i.label)

abbrev pub parts_of : Identity → Parts
parts_of i = (i.org, role_byte i.role, i.label)

-- A record says this reason, of a place of the block of this number.
pub record Says (number : ℕ) (pool : List ℕ) (identities : List PooledIdentity) (r : Reason) (p : PooledReason) : Type 0 where
  pub in_numbers : without_places p ≡ without_places (numbers number r (shortfall_in r))
  pub places : places_read pool p ≡ places_in r
  pub id : piece pool p.id ≡ id_in r
  pub policy : piece pool p.policy ≡ policy_in (shortfall_in r)
  pub missing : piece pool p.missing_org ≡ missing_org (missing_in (shortfall_in r))
  pub signers : map (parts_read pool) (take p.signers (drop p.first_identity identities)) ≡ map parts_of (signers_of r)
  pub refused : map (parts_read pool) (take p.refused (drop (p.first_identity + p.signers) identities)) ≡ map parts_of (refused_of r)

-- Each of these says its reason, in order, and there are no others.
abbrev pub SayAll : ℕ → List ℕ → List PooledIdentity → List Reason → List PooledReason → Type 0
SayAll number pool identities [] ps = ps ≡ []
SayAll number pool identities (r ∷ reasons) [] = ⊥
SayAll number pool identities (r ∷ reasons) (p ∷ ps) = Says number pool identities r p × SayAll number pool identities reasons ps
