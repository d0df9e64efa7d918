-- Bytes that spell one block have one list of requests.
use Rattle.std.proofs.Common.{◌≡◌, ℕ, List, sym, ap, subst, ◌∙◌}
use Rattle.block.specs.declared.block.Block.{Block}
use Rattle.block.specs.Grammar.{Spells}
use Rattle.policy_eval.specs.Accepts.{Accepts}
use Rattle.signature_requests.specs.declared.request.Request.{Request}
use Rattle.signature_requests.specs.Requests.{block_requests, AreRequests}
use Rattle.signature_requests.specs.Agreement.{AgreeOn, AgreeOnBytes}

module _ (one_block : (bytes : List ℕ) (a b : Block) → Spells bytes a → Spells bytes b → a ≡ b) where
  pub one_list : (bytes : List ℕ) (a b : List Request) → AreRequests bytes a → AreRequests bytes b → a ≡ b
  one_list bytes a b are be = are.listed ∙ ap block_requests (one_block bytes are.block be.block are.spelled be.spelled) ∙ sym be.listed

  pub agree_on_bytes : (accepts others : Accepts) (bytes : List ℕ) (requests : List Request) → AreRequests bytes requests → AgreeOn accepts others requests → AgreeOnBytes accepts others bytes
  agree_on_bytes accepts others bytes requests are agree = λ b spelled.
      subst (λ (rs : List Request). AgreeOn accepts others rs) (are.listed ∙ ap block_requests (one_block bytes are.block b are.spelled spelled)) agree
