-- Where a transaction comes from: faults that go before all others and leave the id unused.
use Rattle.transaction.specs.declared.item.Item.{Item}
use Rattle.transaction.specs.declared.item.Item.TheVariants as item
use Rattle.std.proofs.Common.{◌≡◌, ℕ, Bool, true, false, List, [], ◌∷◌, ◌++◌, length, Option, Some, refl, ap, length-append, arith}
use Rattle.std.specs.Prelude.{codes}
use Rattle.std.specs.Str.{bytes_eq}
use Rattle.std.specs.Cmp.Lexicographic.{bytes_decides}
use Rattle.transaction.specs.declared.transaction.Tx.{Tx}
use Rattle.transaction.specs.Grammar.{identity_bytes, body_bytes, signed_bytes}
use Rattle.policy_eval.specs.Accepts.{Accepts}
use Rattle.rules.specs.declared.flag.Flag.{Flag}
use Rattle.rules.specs.declared.flag.Flag.TheVariants.{Valid, TargetChainNotFound, BadCreatorSignature, BadProposalTxId, EndorsementPolicyFailure}
use Rattle.rules.specs.State.{with_changes}
use Rattle.rules.specs.Job.{Job}
use Rattle.rules.specs.Fold.{running, flags}
use Rattle.rules.specs.Commit.{job_of}
use Rattle.rules.specs.World.{empty_world}
use Rattle.rules.proofs.rows.Shared.{p0, q0, k, put, writing, channel, endorsed_by, an_id}
use Rattle.rules.proofs.rows.Looks.{uses}

-- a verifier that accepts the signature of no bytes alone
abbrev accepts_none : Accepts
accepts_none who message signature = bytes_eq signature []

abbrev first_block : List (Option Item) → Job
first_block txs = job_of channel accepts_none (empty_world channel.definitions) txs

-- with one nonce and creator, so one id
abbrev good : Tx
good = endorsed_by (p0 ∷ []) (writing (put k ∷ []))

abbrev badly_signed : Tx
badly_signed = record good { signature = 1 ∷ [] }

pub bad_signature_uses_no_id : flags (first_block (Some (item.Tx badly_signed) ∷ Some (item.Tx good) ∷ [])) ≡ BadCreatorSignature ∷ Valid ∷ []
unfolding running with_changes
bad_signature_uses_no_id = simp uses refl

pub channel_goes_before_signature : flags (first_block (Some (item.Tx (record badly_signed { channel = codes "other" })) ∷ [])) ≡ TargetChainNotFound ∷ []
unfolding running with_changes
channel_goes_before_signature = refl

pub signature_goes_before_id : flags (first_block (Some (item.Tx (record badly_signed { id = codes "x" })) ∷ [])) ≡ BadCreatorSignature ∷ []
unfolding running with_changes
signature_goes_before_id = refl

-- given that `x` isn't the id
pub another_id_uses_none : bytes_eq (codes "x") an_id ≡ false → flags (first_block (Some (item.Tx (record good { id = codes "x" })) ∷ Some (item.Tx good) ∷ [])) ≡ BadProposalTxId ∷ Valid ∷ []
unfolding running with_changes
another_id_uses_none apart = simp (apart, uses) refl

-- ---- which bytes are signed

-- a verifier by which a message is signed by repeating it
abbrev repeats : Accepts
repeats who message signature = bytes_eq message signature

same_bytes : (x : List ℕ) → bytes_eq x x ≡ true
same_bytes x = (bytes_decides x x).1 refl

longer_bytes : (x : List ℕ) (b : ℕ) (y : List ℕ) → bytes_eq (x ++ b ∷ y) x ≡ false
longer_bytes x b y = by (bytes_eq (x ++ b ∷ y) x) refl
  where
    by : (e : Bool) → bytes_eq (x ++ b ∷ y) x ≡ e → e ≡ false
    by true same = let long : length (x ++ b ∷ y) ≡ length x = ap length ((bytes_decides (x ++ b ∷ y) x).0 same) in absurd (omega (arith, long, length-append x (b ∷ y)))
    by false same = refl

abbrev body : List ℕ
body = body_bytes (writing (put k ∷ []))

-- endorsed by q0, whose signature this is
abbrev endorsed_with : List ℕ → Tx
endorsed_with signature = record (writing (put k ∷ [])) { endorsements = record { endorser = q0; signature = signature } ∷ [] }

abbrev well_endorsed : Tx
well_endorsed = endorsed_with (body ++ identity_bytes q0)

abbrev signed_whole : Tx → Option Item
signed_whole t = Some (item.Tx (record t { signature = signed_bytes t }))

abbrev flags_of : Option Item → List Flag
flags_of t = flags (job_of channel repeats (empty_world channel.definitions) (t ∷ []))

-- the creator the body and the endorsements, an endorser the body and its identity
pub each_signs_its_bytes : flags_of (signed_whole well_endorsed) ≡ Valid ∷ []
unfolding running with_changes
each_signs_its_bytes = simp (same_bytes, uses) refl

pub creator_signs_more_than_the_body : flags_of (Some (item.Tx (record well_endorsed { signature = body }))) ≡ BadCreatorSignature ∷ []
unfolding running with_changes
creator_signs_more_than_the_body = simp (longer_bytes, uses) refl

pub endorser_signs_more_than_the_body : flags_of (signed_whole (endorsed_with body)) ≡ EndorsementPolicyFailure ∷ []
unfolding running with_changes
endorser_signs_more_than_the_body = simp (same_bytes, longer_bytes, uses) refl
