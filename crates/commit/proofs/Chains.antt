-- What a committer answers to one string after the other is a chain of steps.
use Rattle.std.proofs.Common.{◌≡◌, ℕ, List, [], ◌∷◌, Result, Ok, Err, ap, subst}
use Rattle.std.specs.Prelude.{map}
use Rattle.channel.specs.Configuration.{Configuration}
use Rattle.policy_eval.specs.Accepts.{Accepts}
use Rattle.query.specs.declared.receipt.Receipt.{Receipt}
use Rattle.rules.specs.Step.{Step}
use Rattle.rules.specs.Chain.{Chain}
use Rattle.commit.specs.declared.not_committed.NotCommitted.{NotCommitted}
use Rattle.commit.specs.declared.not_committed.NotCommitted.TheVariants.{Refused, MemoryInCommit, Stopped}
use Rattle.commit.specs.Committing.{Committing, Submits, Runs, answer_in, world_of}
use Rattle.next_block.specs.Submissions.{submissions}

abbrev Answer : Type 0
Answer = Result Receipt NotCommitted

is_step : (accepts : Accepts) (old new : Committing) (bytes : List ℕ) (answer : Answer)
    → Submits accepts old bytes answer new → Step old.channel accepts (world_of old) bytes (answer_in answer) (world_of new)
is_step accepts old new bytes (Ok r) h = h.step
is_step accepts old new bytes (Err (Refused refused)) h = (h.1, ap world_of h.2)
is_step accepts old new bytes (Err MemoryInCommit) h = (tt, ap world_of h.2)
is_step accepts old new bytes (Err Stopped) h = (tt, ap world_of h.1)

keeps_channel : (accepts : Accepts) (old new : Committing) (bytes : List ℕ) (answer : Answer) → Submits accepts old bytes answer new → new.channel ≡ old.channel
keeps_channel accepts old new bytes (Ok r) h = ap (λ (c : Committing). c.channel) h.published
keeps_channel accepts old new bytes (Err (Refused refused)) h = ap (λ (c : Committing). c.channel) h.2
keeps_channel accepts old new bytes (Err MemoryInCommit) h = ap (λ (c : Committing). c.channel) h.2
keeps_channel accepts old new bytes (Err Stopped) h = ap (λ (c : Committing). c.channel) h.1

pub run_is_chain : (accepts : Accepts) (old new : Committing) (blocks : List (List ℕ)) (answers : List Answer)
    → Runs accepts old blocks answers new → Chain old.channel (world_of old) (submissions accepts blocks) (map answer_in answers) (world_of new)
run_is_chain accepts old new [] [] h = ap world_of h
run_is_chain accepts old new [] (answer ∷ answers) h = absurd h
run_is_chain accepts old new (bytes ∷ blocks) [] h = absurd h
run_is_chain accepts old new (bytes ∷ blocks) (answer ∷ answers) h =
    let rest = run_is_chain accepts h.0 new blocks answers h.2 in
    let kept = keeps_channel accepts old h.0 bytes answer h.1 in
    (world_of h.0, is_step accepts old h.0 bytes answer h.1, subst (λ (c : Configuration). Chain c (world_of h.0) (submissions accepts blocks) (map answer_in answers) (world_of new)) kept rest)
