use Rattle.std.proofs.Common.{◌≡◌, ◌++◌, drop, length}
use Rattle.std.specs.List.{flat_map}
use Rattle.reason_lists.specs.Pooled.{identity_bytes, identities_from}
use Rattle.reason_lists.proofs.identities.put_identities.Given as goal

-- those so far, with those that are left, are all
abbrev pub invariant-loop-identity : goal.invariant-loop-identity
invariant-loop-identity l = record {
  pool : l.pool.items ++ flat_map identity_bytes (drop l.identity-index l.named) ≡ l.fn.pool.items ++ flat_map identity_bytes l.named;
  identities : l.identities.items ++ identities_from (length l.pool.items) (drop l.identity-index l.named) ≡ l.fn.identities.items ++ identities_from (length l.fn.pool.items) l.named;
}
