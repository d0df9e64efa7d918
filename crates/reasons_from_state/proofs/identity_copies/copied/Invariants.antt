use Rattle.std.proofs.Common.{◌≡◌, take}
use Rattle.reasons_from_state.proofs.identity_copies.copied.Given as goal

abbrev pub invariant-loop-identity : goal.invariant-loop-identity
invariant-loop-identity l = l.copied.items ≡ take l.identity-index l.identities
