-- What the candidates of the next block change is its delta, and a world with it applied is a step.
use Rattle.std.proofs.Common.{◌≡◌, ℕ, ◌==◌, List, [], length, map, Option, Ok, refl, sym, ap, subst, ◌∙◌}
use Rattle.std.proofs.lemmas.List.{length-map}
use Rattle.block.specs.declared.block.Block.{Block}
use Rattle.block.specs.Grammar.{Spells}
use Rattle.channel.specs.Configuration.{Configuration}
use Rattle.policy_eval.specs.Accepts.{Accepts}
use Rattle.rules.specs.declared.answer.Accepted.{Accepted}
use Rattle.rules.specs.declared.committed.CommittedBlock.{CommittedBlock}
use Rattle.rules.specs.declared.delta.Delta.{Delta}
use Rattle.rules.specs.Candidate.{used_id}
use Rattle.rules.specs.Commit.{items_of, channel_in, job_of, committed_of}
use Rattle.rules.specs.Delta.{AreRealChanges, IsDelta, applied, changes_in}
use Rattle.rules.specs.FirstUses.{with_uses}
use Rattle.rules.specs.Definitions.{with_definitions}
use Rattle.rules.specs.Names.{HasNamesOf}
use Rattle.rules.specs.Job.{Job}
use Rattle.rules.specs.Linked.{IsLinked}
use Rattle.rules.specs.Step.{Step}
use Rattle.rules.specs.World.{World, height_of, last_commit_hash}
use Rattle.rules.proofs.Candidates.{length-candidates_from}
use Rattle.rules.proofs.Deltas.{committed-is_delta}
use Rattle.rules.proofs.OpenUpdates.{steps_keep_names}
use Rattle.next_block.specs.Changes.{Changes}
use Rattle.next_block.specs.NextDelta.{IsDeltaOfJob, IsNextDelta, answer_to}

module _ (channel : Configuration) (accepts : Accepts) (w : World) where
  -- one id or none for each candidate
  count-ids : (b : Block) (ids : List (Option (List ℕ))) → ids ≡ map (used_id channel accepts) (items_of b) → length ids ≡ length (job_of channel accepts w (items_of b)).candidates
  count-ids b ids are = ap length are ∙ length-map (items_of b) _ ∙ sym (length-candidates_from (channel_in channel w) accepts (length (items_of b) == 1) w.first_uses [] (items_of b))

  pub count-job : (b : Block) (j : Job) (ids : List (Option (List ℕ))) → j ≡ job_of channel accepts w (items_of b) → ids ≡ map (used_id channel accepts) (items_of b) → length ids ≡ length j.candidates
  count-job b j ids job_is ids_are = count-ids b ids ids_are ∙ ap (λ (k : Job). length k.candidates) (sym job_is)

  pub changes-is_delta : (bytes : List ℕ) (b : Block) (j : Job) (ids : List (Option (List ℕ))) (last : Option (List ℕ)) (kept : CommittedBlock) (d : Delta)
      → j ≡ job_of channel accepts w (items_of b) → ids ≡ map (used_id channel accepts) (items_of b) → last ≡ last_commit_hash w → kept ≡ committed_of bytes last b j
      → Changes j ids kept d
      → IsDelta channel accepts w (items_of b) (committed_of bytes (last_commit_hash w) b (job_of channel accepts w (items_of b))) d × AreRealChanges w.state (changes_in d.changes)
  changes-is_delta bytes b j ids last kept d job_is ids_are last_is kept_is changes =
      let own = subst (λ (us : List (Option (List ℕ))). Changes (job_of channel accepts w (items_of b)) us kept d) ids_are (
      subst (λ (k : Job). Changes k ids kept d) job_is changes) in (
        record {
          state = own.state;
          history = own.history w.history;
          first_uses = ap (with_uses w.first_uses) own.uses;
          definitions = ap (with_definitions w.definitions) own.definitions;
          block = own.block ∙ kept_is ∙ (λ i. committed_of bytes (last_is i) b (job_is i));
        },
        own.real,
      )

  -- the delta of a job is the next one where the job is that of the next block
  pub is_next : (bytes kept : List ℕ) (b : Block) (j : Job) (ids : List (Option (List ℕ))) (last : Option (List ℕ)) (d : Delta)
      → kept ≡ bytes → Spells bytes b → IsLinked w b → j ≡ job_of channel accepts w (items_of b) → ids ≡ map (used_id channel accepts) (items_of b)
      → last ≡ last_commit_hash w → IsDeltaOfJob j ids last kept b d → IsNextDelta channel accepts w bytes d
  is_next bytes kept b j ids last d same spelled linked job_is ids_are last_is is =
      let both = is channel accepts w job_is ids_are last_is in
      record {
        block = b;
        spelled = spelled;
        linked = linked;
        delta = subst (λ (k : List ℕ). IsDelta channel accepts w (items_of b) (committed_of k (last_commit_hash w) b (job_of channel accepts w (items_of b))) d) same both.0;
        changes = both.1;
      }

  -- a world to which the delta of its next block is applied, with the answer that the delta keeps, is a step
  pub next_delta-step : (bytes : List ℕ) (d : Delta) (answer : Accepted) (new : World) → IsNextDelta channel accepts w bytes d
      → answer ≡ record { number = height_of w; header_hash = d.block.header_hash; commit_hash = d.block.commit_hash; flags = d.block.flags } → new ≡ applied w d
      → Step channel accepts w bytes (Ok answer) new
  next_delta-step bytes d answer new next answer_is new_is =
      let b = next.block in
      let kept : CommittedBlock = committed_of bytes (last_commit_hash w) b (job_of channel accepts w (items_of b)) in
      let shown : (n : ℕ) → CommittedBlock → Accepted = λ n k. record { number = n; header_hash = k.header_hash; commit_hash = k.commit_hash; flags = k.flags } in (
        b,
        next.spelled,
        next.linked,
        answer_is ∙ ap (shown (height_of w)) next.delta.block ∙ ap (λ (n : ℕ). shown n kept) (sym next.linked.number),
        new_is ∙ sym (committed-is_delta channel accepts w (items_of b) kept d next.delta),
      )

  -- the world behind the next block has the names of the channel too
  pub next-names : (bytes : List ℕ) (d : Delta) → HasNamesOf channel w → IsNextDelta channel accepts w bytes d → HasNamesOf channel (applied w d)
  next-names bytes d names next chaincode =
      steps_keep_names channel accepts w (applied w d) bytes (Ok (answer_to w d)) chaincode (next_delta-step bytes d (answer_to w d) (applied w d) next refl refl)
      ∙ names chaincode
