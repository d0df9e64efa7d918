-- A verifier that was told the answers to a list of requests, and accepts nothing else.
use Rattle.std.specs.Prelude.{List, [], ◌∷◌, Bool, false, ◌&&◌, if◌then◌else◌}
use Rattle.std.specs.Str.{bytes_eq}
use Rattle.transaction.specs.Same.{is_same_identity}
use Rattle.policy_eval.specs.Accepts.{Accepts}
use Rattle.signature_requests.specs.declared.request.Request.{Request}

-- both ask the same
abbrev pub is_same_request : Request → Request → Bool
is_same_request a b = is_same_identity a.identity b.identity && bytes_eq a.message b.message && bytes_eq a.signature b.signature

-- the answer to the first request that asks the same, and no where none does
abbrev pub told_to : List Request → List Bool → Request → Bool
told_to [] answers asked = false
told_to (r ∷ requests) [] asked = false
told_to (r ∷ requests) (answer ∷ answers) asked = if is_same_request r asked then answer else told_to requests answers asked

abbrev pub told : List Request → List Bool → Accepts
told requests answers identity message signature = told_to requests answers (record { identity = identity; message = message; signature = signature })
