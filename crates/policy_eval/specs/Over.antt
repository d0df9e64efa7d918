-- Who signed of these endorsements over a body: what transactions and updates have in common. No public contract cites this.
use Rattle.std.specs.Prelude.{ℕ, List, ◌++◌, Bool, map, filter}
use Rattle.transaction.specs.declared.identity.Identity.{Identity}
use Rattle.transaction.specs.declared.transaction.Endorsement.{Endorsement}
use Rattle.transaction.specs.{identity_bytes}
use Rattle.policy_eval.specs.Accepts.{Accepts}
use Rattle.policy_eval.specs.Signers.{each_once}

abbrev pub is_accepted_over : Accepts → List ℕ → Endorsement → Bool
is_accepted_over accepts body e = accepts e.endorser (body ++ identity_bytes e.endorser) e.signature

abbrev pub signers_over : Accepts → List ℕ → List Endorsement → List Identity
signers_over accepts body es = each_once (map (λ e. e.endorser) (filter (is_accepted_over accepts body) es))
