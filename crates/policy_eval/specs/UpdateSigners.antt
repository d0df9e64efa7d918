-- Who signed an update of a definition: as of a transaction.
use Rattle.std.specs.Prelude.{◌≡◌, List, ◌++◌, Bool, map, filter, IsTrue}
use Rattle.std.specs.List.{Contains}
use Rattle.transaction.specs.declared.identity.Identity.{Identity}
use Rattle.transaction.specs.declared.transaction.Endorsement.{Endorsement}
use Rattle.transaction.specs.declared.update.Update.{Update}
use Rattle.transaction.specs.{update_body_bytes, identity_bytes}
use Rattle.policy_eval.specs.Accepts.{Accepts}
use Rattle.policy_eval.specs.Signers.{each_once}

-- an endorser signs the body followed by its own identity bytes
abbrev pub is_accepted_on_update : Accepts → Update → Endorsement → Bool
is_accepted_on_update accepts u e = accepts e.endorser (update_body_bytes u ++ identity_bytes e.endorser) e.signature

-- the endorsers whose signature is accepted, in order, each at its first accepted signature
abbrev pub update_signers_of : Accepts → Update → List Identity
update_signers_of accepts u = each_once (map (λ e. e.endorser) (filter (is_accepted_on_update accepts u) u.endorsements))

-- an endorsement of the identity is accepted
abbrev pub HasSignedUpdate : Accepts → Update → Identity → Type 0
HasSignedUpdate accepts u identity = (e : Endorsement) × Contains u.endorsements e × (e.endorser ≡ identity) × IsTrue (is_accepted_on_update accepts u e)
