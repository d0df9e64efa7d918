-- Verifiers that agree where they are asked.
use Rattle.std.specs.Prelude.{◌≡◌, ℕ, List, Bool}
use Rattle.std.specs.List.{AllByRecursion}
use Rattle.block.specs.declared.block.Block.{Block}
use Rattle.block.specs.Grammar.{Spells}
use Rattle.policy_eval.specs.Accepts.{Accepts}
use Rattle.signature_requests.specs.declared.request.Request.{Request}
use Rattle.signature_requests.specs.Requests.{block_requests}

-- what a verifier answers to a request
abbrev pub answer_to : Accepts → Request → Bool
answer_to accepts r = accepts r.identity r.message r.signature

-- two verifiers have one answer to each of these requests
abbrev pub AgreeOn : Accepts → Accepts → List Request → Type 0
AgreeOn accepts others requests = AllByRecursion (λ r. answer_to accepts r ≡ answer_to others r) requests

-- to each request of the block that the bytes spell; where they spell none, nothing is asked
abbrev pub AgreeOnBytes : Accepts → Accepts → List ℕ → Type 0
AgreeOnBytes accepts others bytes = (b : Block) → Spells bytes b → AgreeOn accepts others (block_requests b)
