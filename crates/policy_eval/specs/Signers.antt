-- Who signed a transaction.
use Rattle.std.specs.Prelude.{◌≡◌, List, [], ◌∷◌, ◌++◌, Bool, not, map, filter, IsTrue}
use Rattle.std.specs.List.{Contains}
use Rattle.transaction.specs.declared.identity.Identity.{Identity}
use Rattle.transaction.specs.declared.transaction.Endorsement.{Endorsement}
use Rattle.transaction.specs.declared.transaction.Tx.{Tx}
use Rattle.transaction.specs.{body_bytes, identity_bytes, is_same_identity}
use Rattle.policy_eval.specs.Accepts.{Accepts}

-- an endorser signs the body followed by its own identity bytes
abbrev pub is_accepted : Accepts → Tx → Endorsement → Bool
is_accepted accepts tx e = accepts e.endorser (body_bytes tx ++ identity_bytes e.endorser) e.signature

-- each identity at its first place alone
abbrev pub each_once : List Identity → List Identity
each_once [] = []
each_once (i ∷ is) = i ∷ filter (λ other. not (is_same_identity i other)) (each_once is)

-- the endorsers whose signature is accepted, in order, each at its first accepted signature
abbrev pub signers_of : Accepts → Tx → List Identity
signers_of accepts tx = each_once (map (λ e. e.endorser) (filter (is_accepted accepts tx) tx.endorsements))

-- an endorsement of the identity is accepted
abbrev pub HasSigned : Accepts → Tx → Identity → Type 0
HasSigned accepts tx identity = (e : Endorsement) × Contains tx.endorsements e × (e.endorser ≡ identity) × IsTrue (is_accepted accepts tx e)
