-- The ledger's steps are those of the definition, and make a chain.
use Rattle.std.proofs.Common.{◌≡◌, ℕ, ◌+◌, ◌<◌, List, [], ◌∷◌, ◌++◌, length, get_or, take, Result, refl, sym, ap, subst, ◌∙◌}
use Rattle.std.proofs.lemmas.List.{take_more, map_push}
use Rattle.channel.specs.Configuration.{Configuration}
use Rattle.policy_eval.specs.Accepts.{Accepts}
use Rattle.rules.specs.declared.answer.Accepted.{Accepted}
use Rattle.rules.specs.declared.answer.Refused.{Refused}
use Rattle.rules.specs.World.{World}
use Rattle.rules.specs.Step.{Step}
use Rattle.rules.specs.Chain.{Submission, Chain}
use Rattle.next_block.specs.Submissions.{submissions}

-- a chain goes on by one step
pub Chain-push : (channel : Configuration) (old mid new : World) (submissions : List Submission) (answers : List (Result Accepted Refused)) (s : Submission) (answer : Result Accepted Refused)
    → Chain channel old submissions answers mid → Step channel s.accepts mid s.bytes answer new → Chain channel old (submissions ++ s ∷ []) (answers ++ answer ∷ []) new
Chain-push channel old mid new [] [] s answer chain step =
    (new, subst (λ (w : World). Step channel s.accepts w s.bytes answer new) chain step, refl)
Chain-push channel old mid new (first ∷ submissions) (a ∷ answers) s answer chain step = (chain.0, chain.1, Chain-push channel chain.0 mid new submissions answers s answer chain.2 step)
Chain-push channel old mid new [] (a ∷ answers) s answer chain step = absurd chain
Chain-push channel old mid new (first ∷ submissions) [] s answer chain step = absurd chain

-- one block more was handed in
pub Chain-more : (channel channel' : Configuration) (accepts : Accepts) (old mid new : World) (blocks : List (List ℕ)) (i : ℕ) (bytes item : List ℕ) (answers answers' : List (Result Accepted Refused)) (answer : Result Accepted Refused)
    → i < length blocks → item ≡ get_or blocks i item → bytes ≡ item → channel' ≡ channel
    → Chain channel old (submissions accepts (take i blocks)) answers mid → Step channel' accepts mid bytes answer new → answers' ≡ answers ++ answer ∷ []
    → Chain channel old (submissions accepts (take (i + 1) blocks)) answers' new
Chain-more channel channel' accepts old mid new blocks i bytes item answers answers' answer lt at same kept chain step e =
    let s : Submission = record { bytes = item; accepts = accepts } in
    let more : submissions accepts (take (i + 1) blocks) ≡ submissions accepts (take i blocks) ++ s ∷ [] =
    ap (submissions accepts) (take_more blocks i item lt ∙ ap (λ (b : List ℕ). take i blocks ++ b ∷ []) (sym at)) ∙ map_push _ (take i blocks) item in
    let step' : Step channel accepts mid item answer new = subst (λ (c : Configuration). Step c accepts mid item answer new) kept (subst (λ (b : List ℕ). Step channel' accepts mid b answer new) same step) in
    let pushed : Chain channel old (submissions accepts (take i blocks) ++ s ∷ []) (answers ++ answer ∷ []) new = Chain-push channel old mid new (submissions accepts (take i blocks)) answers s answer chain step' in
    subst (λ (all : List (Result Accepted Refused)). Chain channel old (submissions accepts (take (i + 1) blocks)) all new) (sym e) (subst (λ (ss : List Submission). Chain channel old ss (answers ++ answer ∷ []) new) (sym more) pushed)
