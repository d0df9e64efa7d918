-- Requests as verdicts, and the bytes that these name.
use Rattle.std.specs.Prelude.{◌≡◌, ℕ, ◌+◌, List, [], ◌∷◌, ◌++◌, length, Bool, false}
use Rattle.std.specs.List.{flat_map}
use Rattle.transaction.specs.Grammar.{role_byte}
use Rattle.signature_requests.specs.declared.request.Request.{Request}
use Rattle.signature_requests.specs.Requests.{AreRequests}
use Rattle.verdicts.specs.declared.verdict.Verdict.{Verdict}

-- what the pool has of a request: organization, label, message, signature
abbrev pub pooled_bytes : Request → List ℕ
pooled_bytes r = r.identity.org ++ (r.identity.label ++ (r.message ++ r.signature))

-- of one request after the other
abbrev pub pool_of : List Request → List ℕ
pool_of requests = flat_map pooled_bytes requests

-- the verdict on a request whose bytes begin at this place of the pool
abbrev pub verdict_at : ℕ → Request → Bool → Verdict
verdict_at n r accepted = record {
  org = record { at = n; len = length r.identity.org };
  label = record { at = n + length r.identity.org; len = length r.identity.label };
  message = record { at = n + length r.identity.org + length r.identity.label; len = length r.message };
  signature = record { at = n + length r.identity.org + length r.identity.label + length r.message; len = length r.signature };
  role = role_byte r.identity.role;
  accepted = accepted;
}

-- one on each of these requests, whose bytes stand one after the other from this place on
abbrev pub verdicts_from : (Request → Bool) → ℕ → List Request → List Verdict
verdicts_from answer n [] = []
verdicts_from answer n (r ∷ requests) = verdict_at n r (answer r) ∷ verdicts_from answer (n + length (pooled_bytes r)) requests

-- one on each request, as it is answered
abbrev pub verdicts_of : (Request → Bool) → List Request → List Verdict
verdicts_of answer requests = verdicts_from answer 0 requests

-- the answer to all where nothing was checked
abbrev pub refused : Request → Bool
refused r = false

-- The bytes spell a block, and these are the verdicts on its requests, as they are answered, with their pool.
pub record AreVerdicts (answer : Request → Bool) (bytes pool : List ℕ) (verdicts : List Verdict) : Type 0 where
  pub requests : List Request
  pub of_block : AreRequests bytes requests
  pub pooled : pool ≡ pool_of requests
  pub answered : verdicts ≡ verdicts_of answer requests
