-- Worlds keep their room, and a block that is linked to one with room has room in what is hashed of it.
use Rattle.std.proofs.Common.{◌≡◌, ℕ, ◌-◌, ◌*◌, ◌^◌, ◌<◌, ◌≤◌, ◌==◌, List, [], ◌∷◌, ◌++◌, length, Option, Some, None, Result, Ok, Err, refl, sym, ap, subst, ◌∙◌, arith, length-append}
use Rattle.std.specs.Prelude.{option_map, slice_get}
use Rattle.std.specs.FinMap.{get-empty}
use Rattle.std.proofs.lemmas.List.{length-map}
use Rattle.sha2.specs.Sha256.{sha256}
use Rattle.sha2.proofs.Facts256.{length-sha256}
use Rattle.values.specs.Hash.{IsHash}
use Rattle.transaction.specs.Items.{item_of}
use Rattle.block.specs.declared.block.Block.{Block}
use Rattle.block.specs.Grammar.{Spells}
use Rattle.policy.specs.Policies.{Policies}
use Rattle.policy_eval.specs.Accepts.{Accepts}
use Rattle.channel.specs.Configuration.{Configuration}
use Rattle.rules.specs.declared.answer.Accepted.{Accepted}
use Rattle.rules.specs.declared.answer.Refused.{Refused}
use Rattle.rules.specs.declared.committed.CommittedBlock.{CommittedBlock}
use Rattle.rules.specs.declared.row.Row.{Row}
use Rattle.rules.specs.State.{State, key_cmp}
use Rattle.rules.specs.Differing.{differing}
use Rattle.rules.specs.CommitBytes.{BlockCommit, HasRoom, commit_bytes, commit_hash_before}
use Rattle.rules.specs.Job.{Job, candidate_at}
use Rattle.rules.specs.Fold.{final_state, changes_to}
use Rattle.rules.specs.World.{World, empty_world, last_commit_hash}
use Rattle.rules.specs.Linked.{IsLinked}
use Rattle.rules.specs.Commit.{items_of, channel_in, job_of, commit_by, committed_of, world_after}
use Rattle.rules.specs.Step.{Step}
use Rattle.rules.specs.Chain.{Submission, Chain}
use Rattle.rules.proofs.BlockFlags.{length-flags}
use Rattle.rules.proofs.Candidates.{length-candidates_from}
use Rattle.rules.proofs.CommitBytes.{commits_told, same_front}
use Rattle.rules.proofs.Deltas.{final_state-by_changes}
use Rattle.chain_laws.specs.Room.{RowsHaveRoom, WorldHasRoom}
use Rattle.chain_laws.specs.AcceptedBlock.{AcceptedBlock, block_of, commit_of, hash_before, hashed_of}
use Rattle.chain_laws.specs.ToldAlike.{AreToldAlike, DontCollide}
use Rattle.chain_laws.proofs.Candidates.{Fits, items_fit, candidate_fits, definition_fits, few_changes}
use Rattle.chain_laws.proofs.Rows.{running_room, differing_room}
use Rattle.chain_laws.proofs.Counts.{few_differ}

-- ---- a block that is linked to a world with room

module _ (channel : Configuration) (accepts : Accepts) (w : World) (bytes : List ℕ) (b : Block) (rows : RowsHaveRoom w.state) (spelled : Spells bytes b) (linked : IsLinked w b) where
  abbrev own : Job
  own = job_of channel accepts w (items_of b)

  number : own.number < 2 ^ 64
  number = omega (arith, spelled.header.number, linked.number)

  few : length own.candidates ≤ 4096
  few =
      let most : length b.txs ≤ 4096 = spelled.count in
      omega (arith, most, length-map b.txs (item_of b.version), length-candidates_from (channel_in channel w) accepts (length (items_of b) == 1) w.first_uses [] (items_of b))

  fits : (i : ℕ) → Fits (candidate_at own i)
  fits i = candidate_fits (channel_in channel w) accepts (length (items_of b) == 1) w.first_uses [] (items_of b) i (items_fit b.version b.txs)

  pub rows_behind : RowsHaveRoom (final_state own)
  rows_behind = running_room own number fits rows (length own.candidates) (omega (arith, few))

  few_rows : length (differing own.state (final_state own)) < 2 ^ 32
  few_rows =
      let n : ℕ = length (differing own.state (final_state own)) in
      let less : n ≤ length (changes_to own (length own.candidates)) = subst (λ (s : State). length (differing own.state s) ≤ length (changes_to own (length own.candidates))) (sym (final_state-by_changes own)) (few_differ own.state (changes_to own (length own.candidates))) in
      let changes : 2 * length (changes_to own (length own.candidates)) ≤ length own.candidates * 1048576 = few_changes own fits (length own.candidates) in
      omega (arith, less, changes, few)

  pub block_room : HasRoom (commit_by b.version own)
  block_room = record {
    number = number;
    flags = omega (arith, few, length-flags own);
    count = few_rows;
    rows = differing_room own.state (final_state own) rows rows_behind;
    definition = definition_fits own fits (length own.candidates);
  }

-- ---- worlds

at_end : (bs : List CommittedBlock) (b : CommittedBlock) → slice_get (bs ++ b ∷ []) (length bs) ≡ Some b
at_end [] b = refl
at_end (c ∷ bs) b = at_end bs b

-- the commit hash before the next block is that of the one taken
pub hash_after : (channel : Configuration) (accepts : Accepts) (w : World) (bytes : List ℕ) (b : Block)
    → commit_hash_before (last_commit_hash (world_after channel accepts w bytes b)) ≡ sha256 (commit_hash_before (last_commit_hash w) ++ commit_bytes (commit_by b.version (job_of channel accepts w (items_of b))))
hash_after channel accepts w bytes b =
    let kept : CommittedBlock = committed_of bytes (last_commit_hash w) b (job_of channel accepts w (items_of b)) in
    let n : length (w.blocks ++ kept ∷ []) - 1 ≡ length w.blocks = omega (arith, length-append w.blocks (kept ∷ [])) in
    ap (λ (k : ℕ). commit_hash_before (option_map (λ (x : CommittedBlock). x.commit_hash) (slice_get (w.blocks ++ kept ∷ []) k))) n
    ∙ ap (λ (o : Option CommittedBlock). commit_hash_before (option_map (λ (x : CommittedBlock). x.commit_hash) o)) (at_end w.blocks kept)

pub room_after : (channel : Configuration) (accepts : Accepts) (w : World) (bytes : List ℕ) (b : Block) → WorldHasRoom w → Spells bytes b → IsLinked w b
    → WorldHasRoom (world_after channel accepts w bytes b)
room_after channel accepts w bytes b room spelled linked = record {
  rows = rows_behind channel accepts w bytes b room.rows spelled linked;
  commit_hash = ap length (hash_after channel accepts w bytes b) ∙ length-sha256 _;
}

pub empty_room : (definitions : Policies) → WorldHasRoom (empty_world definitions)
empty_room definitions = record { rows = λ k row e. absurd (none row (sym (get-empty key_cmp k) ∙ e)); commit_hash = refl }
  where
    none : (row : Row) → None ≡ Some row → ⊥
    none row e = absurd cc

pub step_room : (channel : Configuration) (accepts : Accepts) (old new : World) (bytes : List ℕ) (answer : Result Accepted Refused)
    → WorldHasRoom old → Step channel accepts old bytes answer new → WorldHasRoom new
step_room channel accepts old new bytes (Ok accepted) room s = subst WorldHasRoom (sym s.4) (room_after channel accepts old bytes s.0 room s.1 s.2)
step_room channel accepts old new bytes (Err refused) room s = subst WorldHasRoom (sym s.1) room

pub chain_room : (channel : Configuration) (old new : World) (submissions : List Submission) (answers : List (Result Accepted Refused))
    → WorldHasRoom old → Chain channel old submissions answers new → WorldHasRoom new
chain_room channel old new [] [] room c = subst WorldHasRoom (sym c) room
chain_room channel old new (s ∷ submissions) (x ∷ answers) room c =
    chain_room channel c.0 new submissions answers (step_room channel s.accepts old c.0 s.bytes x room c.1) c.2
chain_room channel old new [] (x ∷ answers) room c = absurd c
chain_room channel old new (s ∷ submissions) [] room c = absurd c

-- ---- what the hashed bytes determine

pub told_alike : (p q : List ℕ) (a b : BlockCommit) → IsHash p → IsHash q → HasRoom a → HasRoom b → p ++ commit_bytes a ≡ q ++ commit_bytes b → (p ≡ q) × AreToldAlike a b
told_alike p q a b first second room also same =
    let parts = same_front p q (commit_bytes a) (commit_bytes b) (first ∙ sym second) same in
    let told = commits_told a b room also parts.1 in
    (parts.0, record { version = told.0; number = told.1; flags = told.2; changes = told.3; definition = told.4 })

-- ---- accepted blocks

pub linked_room : (channel : Configuration) (accepts : Accepts) (w : World) (submissions : List Submission) (answers : List (Result Accepted Refused)) (bytes : List ℕ) (b : Block)
    → Chain channel (empty_world channel.definitions) submissions answers w → Spells bytes b → IsLinked w b → HasRoom (commit_by b.version (job_of channel accepts w (items_of b)))
linked_room channel accepts w submissions answers bytes b chain spelled linked =
    block_room channel accepts w bytes b (chain_room channel (empty_world channel.definitions) w submissions answers (empty_room channel.definitions) chain).rows spelled linked

pub before_room : (a : AcceptedBlock) → WorldHasRoom a.before
before_room a = chain_room a.channel (empty_world a.channel.definitions) a.before a.submissions a.answers (empty_room a.channel.definitions) a.chain

pub accepted_room : (a : AcceptedBlock) → HasRoom (commit_of a)
accepted_room a = block_room a.channel a.submission.accepts a.before a.submission.bytes (block_of a) (before_room a).rows a.step.1 a.step.2

pub accepted_told : (a b : AcceptedBlock) → hashed_of a ≡ hashed_of b → (hash_before a ≡ hash_before b) × AreToldAlike (commit_of a) (commit_of b)
accepted_told a b same =
    told_alike (hash_before a) (hash_before b) (commit_of a) (commit_of b) (before_room a).commit_hash (before_room b).commit_hash (accepted_room a) (accepted_room b) same

pub answered_told : (a b : AcceptedBlock) → DontCollide (hashed_of a) (hashed_of b) → a.answer.commit_hash ≡ b.answer.commit_hash
    → (hash_before a ≡ hash_before b) × AreToldAlike (commit_of a) (commit_of b)
answered_told a b apart equal =
    let first : a.answer.commit_hash ≡ sha256 (hashed_of a) = ap (λ (x : Accepted). x.commit_hash) a.step.3 in
    let second : b.answer.commit_hash ≡ sha256 (hashed_of b) = ap (λ (x : Accepted). x.commit_hash) b.step.3 in
    accepted_told a b (apart (sym first ∙ equal ∙ second))
