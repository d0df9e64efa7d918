-- A ledger's blocks stay when more are submitted, so the block before a number does.
use Rattle.std.proofs.Common.{◌≡◌, ℕ, zero, suc, ◌<◌, ◌-◌, List, [], ◌∷◌, ◌++◌, length, Option, Result, Ok, Err, refl, sym, ap, ◌∙◌, append_assoc, arith}
use Rattle.std.specs.Prelude.{slice_get}
use Rattle.std.proofs.lemmas.List.{append-nil}
use Rattle.std.proofs.lemmas.Option.{slice_get_past}
use Rattle.block.specs.declared.block.Block.{Block}
use Rattle.channel.specs.Configuration.{Configuration}
use Rattle.policy_eval.specs.Accepts.{Accepts}
use Rattle.rules.specs.declared.answer.Accepted.{Accepted}
use Rattle.rules.specs.declared.answer.Refused.{Refused}
use Rattle.rules.specs.declared.committed.CommittedBlock.{CommittedBlock}
use Rattle.rules.specs.Chain.{Submission, Chain}
use Rattle.rules.specs.Linked.{IsLinked, is_older}
use Rattle.rules.specs.Step.{Step}
use Rattle.rules.specs.World.{World, height_of}
use Rattle.known_blocks.specs.Known.{block_before, previous_after, version_of, IsLinkedInPlace}

-- these blocks, and perhaps more
abbrev Continues : List CommittedBlock → List CommittedBlock → Type 0
Continues bs cs = (more : List CommittedBlock) × (cs ≡ bs ++ more)

step_continues : (channel : Configuration) (accepts : Accepts) (old : World) (bytes : List ℕ) (answer : Result Accepted Refused) (new : World)
    → Step channel accepts old bytes answer new → Continues old.blocks new.blocks
step_continues channel accepts old bytes (Ok accepted) new step = (_, ap (λ (w : World). w.blocks) step.4)
step_continues channel accepts old bytes (Err refused) new step = ([], ap (λ (w : World). w.blocks) step.1 ∙ sym (append-nil old.blocks))

chain_continues : (channel : Configuration) (old : World) (submissions : List Submission) (answers : List (Result Accepted Refused)) (new : World)
    → Chain channel old submissions answers new → Continues old.blocks new.blocks
chain_continues channel old [] [] new same = ([], ap (λ (w : World). w.blocks) same ∙ sym (append-nil old.blocks))
chain_continues channel old (s ∷ submissions) (answer ∷ answers) new chain =
    let first = step_continues channel s.accepts old s.bytes answer chain.0 chain.1 in
    let others = chain_continues channel chain.0 submissions answers new chain.2 in
    (first.0 ++ others.0, others.1 ∙ (ap (λ (bs : List CommittedBlock). bs ++ others.0) first.1 ∙ append_assoc old.blocks first.0 others.0))
chain_continues channel old [] (answer ∷ answers) new chain = absurd chain
chain_continues channel old (s ∷ submissions) [] new chain = absurd chain

slice_get-front : {A : Type 0} (xs ys : List A) (k : ℕ) → k < length xs → slice_get (xs ++ ys) k ≡ slice_get xs k
slice_get-front [] ys k lt = absurd (omega (arith, lt))
slice_get-front (x ∷ xs) ys zero lt = refl
slice_get-front (x ∷ xs) ys (suc k) lt = slice_get-front xs ys k (omega (arith, lt))

-- the last block of a ledger is the block before its height, also when more are accepted
before_is_last : (old new : World) (n : ℕ) → n ≡ height_of old → Continues old.blocks new.blocks → block_before new n ≡ slice_get old.blocks (length old.blocks - 1)
before_is_last old new zero at more = sym (slice_get_past old.blocks (length old.blocks - 1) (omega (arith, at)))
before_is_last old new (suc n) at more =
    ap (λ (bs : List CommittedBlock). slice_get bs n) more.1
    ∙ (slice_get-front old.blocks more.0 n (omega (arith, at)) ∙ ap (λ (k : ℕ). slice_get old.blocks k) (omega (arith, at)))

module _ (channel : Configuration) (before after : World) (submissions : List Submission) (answers : List (Result Accepted Refused)) (b : Block)
    (chain : Chain channel before submissions answers after) (number : b.header.number ≡ height_of before) where
  same_before : block_before after b.header.number ≡ slice_get before.blocks (length before.blocks - 1)
  same_before = before_is_last before after b.header.number number (chain_continues channel before submissions answers after chain)

  pub was_linked : IsLinkedInPlace after b → IsLinked before b
  was_linked linked = record {
    number = number;
    previous = linked.previous ∙ ap previous_after same_before;
    data_hash = linked.data_hash;
    version = ap (λ (c : Option CommittedBlock). is_older b.version (version_of c)) (sym same_before) ∙ linked.version;
  }

  pub stays_linked : IsLinked before b → IsLinkedInPlace after b
  stays_linked linked = record {
    previous = linked.previous ∙ ap previous_after (sym same_before);
    data_hash = linked.data_hash;
    version = ap (λ (c : Option CommittedBlock). is_older b.version (version_of c)) same_before ∙ linked.version;
  }
