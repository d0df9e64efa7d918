-- A block's changes, entries and uses are its whole effect on a world.
use Rattle.std.proofs.Common.{◌≡◌, ◌⊎◌, inl, inr, ℕ, ◌==◌, zero, suc, ◌<◌, Bool, true, false, cond, List, [], ◌∷◌, ◌++◌, length, map, Option, refl, sym, ap, subst, ◌∙◌, arith}
use Rattle.std.specs.Prelude.{if◌then◌else◌}
use Rattle.std.specs.FinMap.{get, same_map}
use Rattle.std.proofs.lemmas.List.{append_cancel_left, length-map}
use Rattle.block.specs.declared.block.Block.{Block}
use Rattle.block.specs.Grammar.{Spells}
use Rattle.transaction.specs.Items.{item_of}
use Rattle.transaction.specs.declared.item.Item.{Item}
use Rattle.header_hash.specs.Hashes.{header_hash_of}
use Rattle.policy_eval.specs.Accepts.{Accepts}
use Rattle.channel.specs.Configuration.{Configuration}
use Rattle.rules.specs.declared.committed.CommittedBlock.{CommittedBlock}
use Rattle.rules.specs.declared.delta.Delta.{Delta}
use Rattle.rules.specs.declared.first_use.FirstUse.{FirstUse}
use Rattle.rules.specs.declared.row.Row.{Row}
use Rattle.rules.specs.Flags.{is_valid}
use Rattle.rules.specs.State.{StateKey, State, ChangeOf, is_among, with_changes}
use Rattle.rules.specs.History.{with_entries}
use Rattle.rules.specs.FirstUses.{with_uses}
use Rattle.rules.specs.Definitions.{with_definitions}
use Rattle.rules.specs.Job.{Job, candidate_at, version_of, changes_by}
use Rattle.rules.specs.Fold.{running, flag, final_state, changes_to, entries_to, definitions_to}
use Rattle.rules.specs.World.{World, last_commit_hash}
use Rattle.rules.specs.Candidate.{used_id}
use Rattle.rules.specs.Commit.{items_of, channel_in, job_of, uses_from, committed_of, committed}
use Rattle.rules.specs.Delta.{changes_in, entries_in, uses_in, definitions_in, applied, IsDelta}
use Rattle.rules.specs.Linked.{IsLinked, IsLinkedDelta}
use Rattle.rules.specs.Listings.{AreSingleChanges, AreNetChanges, new_uses, IsListing}
use Rattle.rules.proofs.Keys.{key_cmp_total, key_cmp-IsAntisymmetric}
use Rattle.rules.proofs.Changes.{with_changes-append, with_changes-none, each_to, get-with_changes}
use Rattle.rules.proofs.IdUses.{with_uses-new}
use Rattle.rules.proofs.BlockFlags.{length-flags}
use Rattle.rules.proofs.Candidates.{length-candidates_from}

-- ---- changes

-- the changes of candidate i, where it is valid
abbrev changes_at : Job → ℕ → State → List (ChangeOf Row)
changes_at j i s = changes_by (version_of j i) (candidate_at j i) s

chosen : (s : State) (cs : List (ChangeOf Row)) (b : Bool) → with_changes s (if b then cs else []) ≡ (if b then with_changes s cs else s)
chosen s cs true = refl
chosen s cs false = with_changes-none s

-- the state after a block is the state before it with the block's changes
pub changes_to-running : (j : Job) (n : ℕ) → with_changes j.state (changes_to j n) ≡ (running j n).state
unfolding changes_to running
changes_to-running j zero = with_changes-none j.state
changes_to-running j (suc i) =
    with_changes-append j.state (changes_to j i) (if is_valid (flag j i) then changes_at j i (running j i).state else [])
    ∙ ap (λ (s : State). with_changes s (if is_valid (flag j i) then changes_at j i (running j i).state else [])) (changes_to-running j i)
    ∙ chosen (running j i).state (changes_at j i (running j i).state) (is_valid (flag j i))

pub final_state-by_changes : (j : Job) → final_state j ≡ with_changes j.state (changes_to j (length j.candidates))
final_state-by_changes j = sym (changes_to-running j (length j.candidates))

-- ---- worlds

-- the world after a block is the world before it with any delta that has the block's effect on each part
pub committed-by_parts : (channel : Configuration) (accepts : Accepts) (w : World) (items : List (Option Item)) (kept : CommittedBlock) (d : Delta)
    → with_changes w.state (changes_in d.changes) ≡ final_state (job_of channel accepts w items)
    → with_entries w.history (entries_in d.entries) ≡ with_entries w.history (entries_to (job_of channel accepts w items) (length (job_of channel accepts w items).candidates))
    → with_uses w.first_uses (uses_in d.uses) ≡ with_uses w.first_uses (uses_from (job_of channel accepts w items) 0 (map (used_id channel accepts) items))
    → with_definitions w.definitions (definitions_in d.definitions) ≡ with_definitions w.definitions (definitions_to (job_of channel accepts w items) (length (job_of channel accepts w items).candidates))
    → d.block ≡ kept
    → committed channel accepts w items kept ≡ applied w d
committed-by_parts channel accepts w items kept d state history first_uses definitions block =
    sym (λ i. record { state = state i; history = history i; first_uses = first_uses i; definitions = definitions i; blocks = w.blocks ++ block i ∷ [] })

-- so with any that has the block's changes, entries and uses
pub committed-by_delta : (channel : Configuration) (accepts : Accepts) (w : World) (items : List (Option Item)) (kept : CommittedBlock) (d : Delta)
    → changes_in d.changes ≡ changes_to (job_of channel accepts w items) (length (job_of channel accepts w items).candidates)
    → entries_in d.entries ≡ entries_to (job_of channel accepts w items) (length (job_of channel accepts w items).candidates)
    → uses_in d.uses ≡ uses_from (job_of channel accepts w items) 0 (map (used_id channel accepts) items)
    → definitions_in d.definitions ≡ definitions_to (job_of channel accepts w items) (length (job_of channel accepts w items).candidates)
    → d.block ≡ kept
    → committed channel accepts w items kept ≡ applied w d
committed-by_delta channel accepts w items kept d changes entries uses definitions block =
    committed-by_parts channel accepts w items kept d
    (ap (with_changes w.state) changes ∙ sym (final_state-by_changes (job_of channel accepts w items)))
    (ap (with_entries w.history) entries)
    (ap (with_uses w.first_uses) uses)
    (ap (with_definitions w.definitions) definitions)
    block

-- ---- a delta, by what it makes of the world

pub committed-is_delta : (channel : Configuration) (accepts : Accepts) (w : World) (items : List (Option Item)) (kept : CommittedBlock) (d : Delta)
    → IsDelta channel accepts w items kept d → committed channel accepts w items kept ≡ applied w d
committed-is_delta channel accepts w items kept d is = committed-by_parts channel accepts w items kept d is.state is.history is.first_uses is.definitions is.block

last_same : (bs : List CommittedBlock) (a b : CommittedBlock) → bs ++ a ∷ [] ≡ bs ++ b ∷ [] → a ≡ b
last_same bs a b e = let ends : a ∷ [] ≡ b ∷ [] = append_cancel_left bs (a ∷ []) (b ∷ []) e in cc

pub delta-is_committed : (channel : Configuration) (accepts : Accepts) (w : World) (items : List (Option Item)) (kept : CommittedBlock) (d : Delta)
    → committed channel accepts w items kept ≡ applied w d → IsDelta channel accepts w items kept d
delta-is_committed channel accepts w items kept d e = record {
  state = ap (λ (x : World). x.state) (sym e);
  history = ap (λ (x : World). x.history) (sym e);
  first_uses = ap (λ (x : World). x.first_uses) (sym e);
  definitions = ap (λ (x : World). x.definitions) (sym e);
  block = last_same w.blocks d.block kept (ap (λ (x : World). x.blocks) (sym e));
}

-- ---- lists of what a block changes

map-map : {A B C : Type 0} (g : B → C) (f : A → B) (xs : List A) → map g (map f xs) ≡ map (λ x. g (f x)) xs
map-map g f [] = refl
map-map {A} {B} {C} g f (x ∷ xs) = ap (λ (l : List C). g (f x) ∷ l) (map-map g f xs)

pub net_changes-final_state : (j : Job) (cs : List (ChangeOf Row)) → AreNetChanges j cs → with_changes j.state cs ≡ final_state j
net_changes-final_state j cs net =
    ap (with_changes j.state) (net.rows ∙ sym (map-map (λ (k : StateKey). (k, get (final_state j) k)) (λ (c : ChangeOf Row). c.0) cs))
    ∙ same_map key_cmp_total key_cmp-IsAntisymmetric (with_changes j.state (each_to (get (final_state j)) ks)) (final_state j) (λ k.
    get-with_changes (get (final_state j)) j.state ks k ∙ by k (is_among k ks) refl)
  where
    ks : List StateKey
    ks = map (λ c. c.0) cs

    by : (k : StateKey) (b : Bool) → is_among k ks ≡ b → cond b (get (final_state j) k) (get j.state k) ≡ get (final_state j) k
    by k true e = refl
    by k false e = sym (net.keys k e)

module _ (channel : Configuration) (accepts : Accepts) (w : World) (items : List (Option Item)) (kept : CommittedBlock) (d : Delta) where
  listed_changes : AreSingleChanges (job_of channel accepts w items) (changes_in d.changes) ⊎ AreNetChanges (job_of channel accepts w items) (changes_in d.changes)
      → with_changes w.state (changes_in d.changes) ≡ final_state (job_of channel accepts w items)
  listed_changes (inl single) = ap (with_changes w.state) single ∙ sym (final_state-by_changes (job_of channel accepts w items))
  listed_changes (inr net) = net_changes-final_state (job_of channel accepts w items) (changes_in d.changes) net

  abbrev all_uses : List (List ℕ × FirstUse)
  all_uses = uses_from (job_of channel accepts w items) 0 (map (used_id channel accepts) items)

  listed_uses : (uses_in d.uses ≡ all_uses) ⊎ (uses_in d.uses ≡ new_uses w.first_uses all_uses) → with_uses w.first_uses (uses_in d.uses) ≡ with_uses w.first_uses all_uses
  listed_uses (inl all) = ap (with_uses w.first_uses) all
  listed_uses (inr new) = ap (with_uses w.first_uses) new ∙ with_uses-new w.first_uses all_uses

  pub listed-is_delta : IsListing channel accepts w items kept d → IsDelta channel accepts w items kept d
  listed-is_delta lists = record {
    state = listed_changes lists.changes;
    history = ap (with_entries w.history) lists.entries;
    first_uses = listed_uses lists.uses;
    definitions = ap (with_definitions w.definitions) lists.definitions;
    block = lists.block;
  }

-- ---- the delta of a linked block

pub delta-is_linked : (channel : Configuration) (accepts : Accepts) (w : World) (bytes : List ℕ) (b : Block) (d : Delta) → Spells bytes b → IsLinked w b
    → IsDelta channel accepts w (items_of b) (committed_of bytes (last_commit_hash w) b (job_of channel accepts w (items_of b))) d → IsLinkedDelta w d
delta-is_linked channel accepts w bytes b d spelled linked is =
    let j = job_of channel accepts w (items_of b) in record {
      block = b;
      spelled = subst (λ (x : List ℕ). Spells x b) (sym (ap (λ (x : CommittedBlock). x.bytes) is.block)) spelled;
      linked = linked;
      header_hash = ap (λ (x : CommittedBlock). x.header_hash) is.block;
      version = ap (λ (x : CommittedBlock). x.version) is.block;
      flags = ap (λ (x : CommittedBlock). length x.flags) is.block ∙ length-flags j ∙ length-candidates_from (channel_in channel w) accepts (length (items_of b) == 1) w.first_uses [] (items_of b) ∙ length-map b.txs (item_of b.version);
    }

-- what is said of the block of a linked delta
abbrev IsKeptOf : World → Delta → Block → Type 0
IsKeptOf w d b = IsLinked w b × (d.block.header_hash ≡ header_hash_of b.header) × (d.block.version ≡ b.version) × (length d.block.flags ≡ length b.txs)

pub block_of_linked : (w : World) (b : Block) (d : Delta) (linked : IsLinkedDelta w d) → linked.block ≡ b → IsLinked w b × (d.block.header_hash ≡ header_hash_of b.header) × (d.block.version ≡ b.version) × (length d.block.flags ≡ length b.txs)
block_of_linked w b d linked same = subst (λ (x : Block). IsKeptOf w d x) same (linked.linked, linked.header_hash, linked.version, linked.flags)
