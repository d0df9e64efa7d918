-- Today's step, over a world of version 1 and bytes of no other, is the step of the first version.
use Rattle.std.proofs.Common.{◌≡◌, ◌≢◌, ℕ, ◌==◌, zero, suc, ◌-◌, cond, Bool, true, false, List, [], ◌∷◌, ◌++◌, length, map, get_or, Option, Some, None, Result, Ok, Err, refl, sym, ap, subst, ◌∙◌, arith}
use Rattle.std.specs.Prelude.{if◌then◌else◌, option_map, option_to_list, unwrap_or, slice_get}
use Rattle.std.specs.List.{AllByRecursion, range_with_len}
use Rattle.std.proofs.lemmas.Bool.{false≢true}
use Rattle.std.proofs.lemmas.List.{length-map, length-append}
use Rattle.std.proofs.lemmas.Option.{slice_get-map}
use Rattle.transaction.specs.declared.block_version.BlockVersion.{BlockVersion}
use Rattle.transaction.specs.declared.block_version.BlockVersion.TheVariants.{V1, V2}
use Rattle.transaction.specs.declared.transaction.Tx.{Tx}
use Rattle.transaction.specs.declared.item.Item.{Item}
use Rattle.transaction.specs.declared.item.Item.TheVariants as item
use Rattle.transaction.specs.Decoded.{tx_of}
use Rattle.transaction.specs.Items.{item_of}
use Rattle.transaction.specs.declared.transaction.Version.{Version}
use Rattle.block.specs.declared.block.Block.{Block}
use Rattle.block.specs.declared.fault.BlockFault.{BlockFault}
use Rattle.block.specs.declared.fault.BlockFault.TheVariants.{BadMagic, Truncated, PreviousLength, TooManyTxs, TxTooLong, TrailingBytes, Memory as NoMemory}
use Rattle.block.specs.Grammar.{magic_of, header_fields, Spells, contents_of}
use Rattle.block.specs.Faults.{HasFaultBehind, HasFault}
use Rattle.block.specs.first_version.Grammar as block
use Rattle.block.specs.first_version.Faults as faults
use Rattle.header_hash.specs.Hashes.{header_hash_of}
use Rattle.policy.specs.Tree.{Tree}
use Rattle.policy.specs.Policies.{Policies}
use Rattle.policy_eval.specs.Accepts.{Accepts}
use Rattle.policy_eval.specs.Signers.{signers_of}
use Rattle.channel.specs.Configuration.{Configuration}
use Rattle.rules.specs.declared.answer.Accepted.{Accepted}
use Rattle.rules.specs.declared.answer.Refused.{Refused}
use Rattle.rules.specs.declared.answer.Refused.TheVariants.{Malformed, WrongNumber, WrongPrevious, WrongDataHash, OldVersion, Memory}
use Rattle.rules.specs.declared.committed.CommittedBlock.{CommittedBlock}
use Rattle.rules.specs.declared.early_flag.EarlyFlag.{EarlyFlag}
use Rattle.rules.specs.declared.early_flag.EarlyFlag.TheVariants.{BadPayload}
use Rattle.rules.specs.declared.flag.Flag.{Flag}
use Rattle.rules.specs.declared.read_verdict.ReadVerdict.{ReadVerdict}
use Rattle.rules.specs.Flags.{is_valid}
use Rattle.rules.specs.State.{State}
use Rattle.rules.specs.History.{with_entries}
use Rattle.rules.specs.FirstUses.{FirstUses, with_uses}
use Rattle.rules.specs.Definitions.{with_definitions}
use Rattle.rules.specs.Endorsement.{is_endorsed}
use Rattle.rules.specs.Reads.{read_verdict}
use Rattle.rules.specs.Candidate as candidate
use Rattle.rules.specs.Job as job
use Rattle.rules.specs.Fold as fold
use Rattle.rules.specs.World.{World, height_of, last_header_hash, last_commit_hash, last_version, previous_from}
use Rattle.rules.specs.Linked.{is_older, IsRefused}
use Rattle.rules.specs.Commit as commit
use Rattle.rules.specs.Step.{Step}
use Rattle.rules.specs.Chain.{Submission, Chain}
use Rattle.first_version.specs.Configuration as configuration
use Rattle.first_version.specs.Answer as answer
use Rattle.first_version.specs.AsBefore.{StepsAsBefore}
use Rattle.first_version.specs.Candidate as was_candidate
use Rattle.first_version.specs.Job as was_job
use Rattle.first_version.specs.Fold as was
use Rattle.first_version.specs.World as was_world
use Rattle.first_version.specs.Linked as was_linked
use Rattle.first_version.specs.Commit as was_commit
use Rattle.first_version.specs.Step as was_step
use Rattle.first_version.specs.Chain as was_chain
use Rattle.first_version.specs.Seen.{seen_channel, seen_block, seen, seen_answer, IsFirst, IsNoSecond}

-- ---- candidates

abbrev embed : was_candidate.Candidate → candidate.Candidate
embed (was_candidate.flagged flag) = candidate.flagged flag
embed (was_candidate.opened tx signers) = candidate.opened tx signers

abbrev as_item : Option Tx → Option Item
as_item o = option_map item.Tx o

embed-flagged_or : (o : Option EarlyFlag) (c : was_candidate.Candidate) → candidate.flagged_or o (embed c) ≡ embed (was_candidate.flagged_or o c)
embed-flagged_or (Some flag) c = refl
embed-flagged_or None c = refl

module _ (channel : Configuration) (accepts : Accepts) (alone : Bool) where
  candidate_same : (used : Bool) (o : Option Tx) → candidate.candidate_of channel accepts alone used (as_item o) ≡ embed (was_candidate.candidate_of (seen_channel channel channel.definitions) accepts used o)
  candidate_same used None = refl
  candidate_same used (Some tx) =
      ap (candidate.flagged_or (candidate.origin_fault channel accepts (item.Tx tx))) (embed-flagged_or (candidate.content_fault channel alone used (item.Tx tx)) (was_candidate.opened tx (signers_of accepts tx)))
      ∙ embed-flagged_or (candidate.origin_fault channel accepts (item.Tx tx)) (was_candidate.flagged_or (candidate.content_fault channel alone used (item.Tx tx)) (was_candidate.opened tx (signers_of accepts tx)))

  id_same : (o : Option Tx) → candidate.used_id channel accepts (as_item o) ≡ was_candidate.used_id (seen_channel channel channel.definitions) accepts o
  id_same None = refl
  id_same (Some tx) = refl

  candidates_same : (uses : FirstUses) (earlier : List (List ℕ)) (txs : List (Option Tx))
      → candidate.candidates_from channel accepts alone uses earlier (map as_item txs) ≡ map embed (was_candidate.candidates_from (seen_channel channel channel.definitions) accepts uses earlier txs)
  candidates_same uses earlier [] = refl
  candidates_same uses earlier (o ∷ txs) =
      let id = id_same o in
      let rest = candidates_same uses (earlier ++ option_to_list (was_candidate.used_id (seen_channel channel channel.definitions) accepts o)) txs in
      let first = candidate_same (candidate.is_used uses earlier (was_candidate.used_id (seen_channel channel channel.definitions) accepts o)) o in
      ap (λ (x : Option (List ℕ)). candidate.candidate_of channel accepts alone (candidate.is_used uses earlier x) (as_item o) ∷ candidate.candidates_from channel accepts alone uses (earlier ++ option_to_list x) (map as_item txs)) id
      ∙ (λ i. first i ∷ rest i)

  ids_same : (txs : List (Option Tx)) → map (candidate.used_id channel accepts) (map as_item txs) ≡ map (was_candidate.used_id (seen_channel channel channel.definitions) accepts) txs
  ids_same [] = refl
  ids_same (o ∷ txs) = λ i. id_same o i ∷ ids_same txs i

at-map : (cs : List was_candidate.Candidate) (i : ℕ) → get_or (map embed cs) i (candidate.flagged BadPayload) ≡ embed (get_or cs i (was_candidate.flagged BadPayload))
at-map [] i = refl
at-map (c ∷ cs) zero = refl
at-map (c ∷ cs) (suc i) = at-map cs i

-- ---- serial execution

abbrev embed_job : Option Tree → was_job.Job → job.Job
embed_job a j = record { number = j.number; state = j.state; definitions = j.definitions; admin = a; candidates = map embed j.candidates }

abbrev as_running : was.Running → fold.Running
as_running r = record { state = r.state; touched = r.touched }

flag_same : (c : was_candidate.Candidate) (e : Bool) (v : ReadVerdict) → job.flag_by (embed c) e v ≡ was_job.flag_by c e v
flag_same (was_candidate.flagged flag) e v = refl
flag_same (was_candidate.opened tx signers) false v = refl
flag_same (was_candidate.opened tx signers) true v = refl

abbrev flag_of : Option Tree → Policies → State → fold.Running → candidate.Candidate → Flag
flag_of a d s r c = job.flag_by c (job.endorsement_by a d s r.touched c) (job.reads_by r.state c)

abbrev was_flag_of : Policies → State → was.Running → was_candidate.Candidate → Flag
was_flag_of d s r c = was_job.flag_by c (was_job.endorsement_by d s r.touched c) (was_job.reads_by r.state c)

flag_of-same : (a : Option Tree) (d : Policies) (s : State) (r : was.Running) (c : was_candidate.Candidate) → flag_of a d s (as_running r) (embed c) ≡ was_flag_of d s r c
flag_of-same a d s r (was_candidate.flagged flag) = refl
flag_of-same a d s r (was_candidate.opened tx signers) = flag_same (was_candidate.opened tx signers) (is_endorsed d s r.touched tx signers) (read_verdict r.state tx)

-- what runs along, after a candidate
abbrev after : Option Tree → Policies → State → Version → fold.Running → candidate.Candidate → fold.Running
after a d s v r c = record {
  state = if is_valid (flag_of a d s r c) then job.state_by v c r.state else r.state;
  touched = if job.endorsement_by a d s r.touched c then r.touched ++ job.touched_by c else r.touched;
}

abbrev was_after : Policies → State → Version → was.Running → was_candidate.Candidate → was.Running
was_after d s v r c = record {
  state = if is_valid (was_flag_of d s r c) then was_job.state_by v c r.state else r.state;
  touched = if was_job.endorsement_by d s r.touched c then r.touched ++ was_job.touched_by c else r.touched;
}

after-same : (a : Option Tree) (d : Policies) (s : State) (v : Version) (r : was.Running) (c : was_candidate.Candidate) → after a d s v (as_running r) (embed c) ≡ as_running (was_after d s v r c)
after-same a d s v r (was_candidate.flagged flag) = refl
after-same a d s v r (was_candidate.opened tx signers) =
    let same = flag_of-same a d s r (was_candidate.opened tx signers) in
    λ i. record {
      state = if is_valid (same i) then was_job.state_by v (was_candidate.opened tx signers) r.state else r.state;
      touched = if is_endorsed d s r.touched tx signers then r.touched ++ was_job.touched_by (was_candidate.opened tx signers) else r.touched;
    }

module _ (a : Option Tree) (j : was_job.Job) where
  running_same : (i : ℕ) → fold.running (embed_job a j) i ≡ as_running (was.running j i)
  unfolding fold.running was.running
  running_same zero = refl
  running_same (suc i) =
      ap (fold.step (embed_job a j) i) (running_same i)
      ∙ ap (after a j.definitions j.state (was_job.version_of j i) (as_running (was.running j i))) (at-map j.candidates i)
      ∙ after-same a j.definitions j.state (was_job.version_of j i) (was.running j i) (was_job.candidate_at j i)

  flag_at : (i : ℕ) → fold.flag (embed_job a j) i ≡ was.flag j i
  flag_at i =
      ap (fold.flag_in (embed_job a j) i) (running_same i)
      ∙ ap (flag_of a j.definitions j.state (as_running (was.running j i))) (at-map j.candidates i)
      ∙ flag_of-same a j.definitions j.state (was.running j i) (was_job.candidate_at j i)

  flags_same : fold.flags (embed_job a j) ≡ was.flags j
  flags_same = λ i. map (λ x. flag_at x i) (range_with_len 0 (length-map j.candidates embed i))

  final_state_same : fold.final_state (embed_job a j) ≡ was.final_state j
  final_state_same =
      ap (λ (n : ℕ). (fold.running (embed_job a j) n).state) (length-map j.candidates embed)
      ∙ ap (λ (r : fold.Running). r.state) (running_same (length j.candidates))

  entries_by-same : (v : Version) (c : was_candidate.Candidate) → job.entries_by v (embed c) ≡ was_job.entries_by v c
  entries_by-same v (was_candidate.flagged flag) = refl
  entries_by-same v (was_candidate.opened tx signers) = refl

  entries_same : (n : ℕ) → fold.entries_to (embed_job a j) n ≡ was.entries_to j n
  unfolding fold.entries_to was.entries_to
  entries_same zero = refl
  entries_same (suc n) =
      let own = ap (job.entries_by (was_job.version_of j n)) (at-map j.candidates n) ∙ entries_by-same (was_job.version_of j n) (was_job.candidate_at j n) in
      λ i. entries_same n i ++ (if is_valid (flag_at n i) then own i else [])

  no_definitions_by : (c : was_candidate.Candidate) → job.definitions_by (embed c) ≡ []
  no_definitions_by (was_candidate.flagged flag) = refl
  no_definitions_by (was_candidate.opened tx signers) = refl

  none_either : (b : Bool) → cond {A = List (List ℕ × Tree)} b [] [] ≡ []
  none_either true = refl
  none_either false = refl

  no_definitions : (n : ℕ) → fold.definitions_to (embed_job a j) n ≡ []
  unfolding fold.definitions_to
  no_definitions zero = refl
  no_definitions (suc n) =
      let own : job.definitions_by (get_or (map embed j.candidates) n (candidate.flagged BadPayload)) ≡ [] = ap job.definitions_by (at-map j.candidates n) ∙ no_definitions_by (was_job.candidate_at j n) in
      (λ i. no_definitions n i ++ (if is_valid (fold.flag (embed_job a j) n) then own i else []))
      ∙ none_either (is_valid (fold.flag (embed_job a j) n))

  uses_same : (i : ℕ) (ids : List (Option (List ℕ))) → commit.uses_from (embed_job a j) i ids ≡ was_commit.uses_from j i ids
  uses_same i [] = refl
  uses_same i (id ∷ ids) = λ k. map (λ x. (x, record { block = j.number; place = i; flag = flag_at i k })) (option_to_list id) ++ uses_same (suc i) ids k

-- ---- worlds

height_same : (w : World) → was_world.height_of (seen w) ≡ height_of w
height_same w = length-map w.blocks seen_block

last_same : (w : World) → was_world.last_header_hash (seen w) ≡ last_header_hash w
last_same w =
    ap (λ (n : ℕ). option_map (λ (b : answer.CommittedBlock). b.header_hash) (slice_get (map seen_block w.blocks) (n - 1))) (length-map w.blocks seen_block)
    ∙ ap (option_map (λ (b : answer.CommittedBlock). b.header_hash)) (slice_get-map seen_block w.blocks (length w.blocks - 1))
    ∙ twice (slice_get w.blocks (length w.blocks - 1))
  where
    twice : (o : Option CommittedBlock) → option_map (λ (b : answer.CommittedBlock). b.header_hash) (option_map seen_block o) ≡ option_map (λ (b : CommittedBlock). b.header_hash) o
    twice None = refl
    twice (Some b) = refl

map-push : (bs : List CommittedBlock) (b : CommittedBlock) → map seen_block (bs ++ b ∷ []) ≡ map seen_block bs ++ seen_block b ∷ []
map-push [] b = refl
map-push (c ∷ bs) b = ap (λ (l : List answer.CommittedBlock). seen_block c ∷ l) (map-push bs b)

pub at_end : (bs : List CommittedBlock) (b : CommittedBlock) → slice_get (bs ++ b ∷ []) (length bs) ≡ Some b
at_end [] b = refl
at_end (c ∷ bs) b = at_end bs b

items_first : (bs : List (List ℕ)) → map (item_of V1) bs ≡ map as_item (map tx_of bs)
items_first [] = refl
items_first (b ∷ bs) = ap (λ (l : List (Option Item)). as_item (tx_of b) ∷ l) (items_first bs)

no_more : (d : Policies) → with_definitions d [] ≡ d
unfolding with_definitions
no_more d = refl

-- over a world of version 1, a block of version 1
module _ (channel : Configuration) (accepts : Accepts) (w : World) (bytes : List ℕ) (b : Block) (first : b.version ≡ V1) where
  abbrev was_channel : configuration.Configuration
  was_channel = seen_channel channel w.definitions

  abbrev txs : List (Option Tx)
  txs = was_commit.txs_of (contents_of b)

  abbrev was_own : was_job.Job
  was_own = was_commit.job_of was_channel accepts (seen w) txs

  items_are : commit.items_of b ≡ map as_item txs
  items_are = ap (λ (v : BlockVersion). map (item_of v) b.txs) first ∙ items_first b.txs

  job_is : commit.job_of channel accepts w (commit.items_of b) ≡ embed_job channel.admin was_own
  job_is =
      let candidates = ap (λ (items : List (Option Item)). candidate.candidates_from (commit.channel_in channel w) accepts (length items == 1) w.first_uses [] items) items_are
      ∙ candidates_same (commit.channel_in channel w) accepts (length (map as_item txs) == 1) w.first_uses [] txs in
      λ i. record { number = sym (height_same w) i; state = w.state; definitions = w.definitions; admin = channel.admin; candidates = candidates i }

  flags_are : fold.flags (commit.job_of channel accepts w (commit.items_of b)) ≡ was.flags was_own
  flags_are = ap fold.flags job_is ∙ flags_same channel.admin was_own

  length_is : length (commit.job_of channel accepts w (commit.items_of b)).candidates ≡ length was_own.candidates
  length_is = ap (λ (j : job.Job). length j.candidates) job_is ∙ length-map was_own.candidates embed

  state_is : fold.final_state (commit.job_of channel accepts w (commit.items_of b)) ≡ was.final_state was_own
  state_is = ap fold.final_state job_is ∙ final_state_same channel.admin was_own

  entries_are : fold.entries_to (commit.job_of channel accepts w (commit.items_of b)) (length (commit.job_of channel accepts w (commit.items_of b)).candidates) ≡ was.entries_to was_own (length was_own.candidates)
  entries_are = (λ i. fold.entries_to (job_is i) (length_is i)) ∙ entries_same channel.admin was_own (length was_own.candidates)

  ids_are : map (candidate.used_id channel accepts) (commit.items_of b) ≡ map (was_candidate.used_id was_channel accepts) txs
  ids_are = ap (map (candidate.used_id channel accepts)) items_are ∙ ids_same (commit.channel_in channel w) accepts true txs

  uses_are : commit.uses_from (commit.job_of channel accepts w (commit.items_of b)) 0 (map (candidate.used_id channel accepts) (commit.items_of b)) ≡ was_commit.uses_from was_own 0 (map (was_candidate.used_id was_channel accepts) txs)
  uses_are = (λ i. commit.uses_from (job_is i) 0 (ids_are i)) ∙ uses_same channel.admin was_own 0 (map (was_candidate.used_id was_channel accepts) txs)

  pub definitions_are : (commit.world_after channel accepts w bytes b).definitions ≡ w.definitions
  definitions_are =
      ap (with_definitions w.definitions) ((λ i. fold.definitions_to (job_is i) (length_is i)) ∙ no_definitions channel.admin was_own (length was_own.candidates)) ∙ no_more w.definitions

  abbrev kept : CommittedBlock
  kept = commit.committed_of bytes (last_commit_hash w) b (commit.job_of channel accepts w (commit.items_of b))

  kept_is : seen_block kept ≡ was_commit.committed_of bytes (contents_of b) was_own
  kept_is = λ i. record { bytes = bytes; header_hash = header_hash_of b.header; flags = flags_are i }

  world_is : seen (commit.world_after channel accepts w bytes b) ≡ was_commit.world_after was_channel accepts (seen w) bytes (contents_of b)
  world_is =
      let blocks = map-push w.blocks kept ∙ ap (λ (k : answer.CommittedBlock). map seen_block w.blocks ++ k ∷ []) kept_is in
      λ i. record { state = state_is i; history = with_entries w.history (entries_are i); first_uses = with_uses w.first_uses (uses_are i); blocks = blocks i }

  still_first : IsFirst (commit.world_after channel accepts w bytes b)
  still_first =
      let n : length (w.blocks ++ kept ∷ []) - 1 ≡ length w.blocks = omega (arith, length-append w.blocks (kept ∷ [])) in
      ap (λ (k : ℕ). unwrap_or (option_map (λ (x : CommittedBlock). x.version) (slice_get (w.blocks ++ kept ∷ []) k)) V1) n
      ∙ ap (λ (o : Option CommittedBlock). unwrap_or (option_map (λ (x : CommittedBlock). x.version) o) V1) (at_end w.blocks kept) ∙ first

-- ---- bytes

is_first : (bytes : List ℕ) (b : Block) → IsNoSecond bytes → Spells bytes b → b.version ≡ V1
is_first bytes b none s = by b.version refl
  where
    by : (v : BlockVersion) → b.version ≡ v → v ≡ V1
    by V1 e = refl
    by V2 e = absurd (none (header_fields b.header ++ block.txs_bytes (length b.txs) b.txs) (s.fields ∙ ap (λ (x : BlockVersion). magic_of x ++ (header_fields b.header ++ block.txs_bytes (length b.txs) b.txs)) e))

spells_first : (bytes : List ℕ) (b : Block) → IsNoSecond bytes → Spells bytes b → block.Spells bytes (contents_of b)
spells_first bytes b none s = record {
  header = s.header;
  count = s.count;
  each = s.each;
  fields = s.fields ∙ ap (λ (x : BlockVersion). magic_of x ++ (header_fields b.header ++ block.txs_bytes (length b.txs) b.txs)) (is_first bytes b none s);
}

behind_first : (bytes : List ℕ) (f : BlockFault) → IsNoSecond bytes → HasFaultBehind bytes f → faults.HasFault bytes f
behind_first bytes f none h = by h.0 h.2
  where
    by : (v : BlockVersion) → bytes ≡ magic_of v ++ h.1 → faults.HasFault bytes f
    by V1 e = subst (λ (x : List ℕ). faults.HasFault x f) (sym e) h.3
    by V2 e = absurd (none h.1 e)

fault_first : (bytes : List ℕ) (f : BlockFault) → IsNoSecond bytes → HasFault bytes f → faults.HasFault bytes f
fault_first bytes BadMagic none h = h V1
fault_first bytes Truncated none h = behind_first bytes Truncated none h
fault_first bytes PreviousLength none h = behind_first bytes PreviousLength none h
fault_first bytes TooManyTxs none h = behind_first bytes TooManyTxs none h
fault_first bytes TxTooLong none h = behind_first bytes TxTooLong none h
fault_first bytes TrailingBytes none h = behind_first bytes TrailingBytes none h
fault_first bytes NoMemory none h = absurd h

-- ---- the step

none_is_older : (v w : BlockVersion) → w ≡ V1 → is_older v w ≡ true → ⊥
none_is_older V1 V1 e older = false≢true older
none_is_older V2 V1 e older = false≢true older
none_is_older v V2 e older = absurd cc

previous_same : (w : World) → previous_from (last_header_hash w) ≡ previous_from (was_world.last_header_hash (seen w))
previous_same w = ap previous_from (sym (last_same w))

module _ (w : World) (bytes : List ℕ) (is : IsFirst w) (none : IsNoSecond bytes) where
  refused_first : (r : Refused) → IsRefused w bytes r → was_linked.IsRefused (seen w) bytes r
  refused_first (Malformed f) h = fault_first bytes f none h
  refused_first (WrongNumber want got) h =
      (contents_of h.0, spells_first bytes h.0 none h.1, ((λ e. h.2.0 (e ∙ height_same w)), h.2.1 ∙ sym (height_same w), h.2.2))
  refused_first WrongPrevious h =
      (contents_of h.0, spells_first bytes h.0 none h.1, (h.2.0 ∙ sym (height_same w), (λ e. h.2.1 (e ∙ sym (previous_same w)))))
  refused_first WrongDataHash h =
      (contents_of h.0, spells_first bytes h.0 none h.1, (h.2.0 ∙ sym (height_same w), h.2.1 ∙ previous_same w, h.2.2))
  refused_first OldVersion h = absurd (none_is_older h.0.version (last_version w) is h.2.3)
  refused_first Memory h = tt

pub step_as_before : (channel : Configuration) (accepts : Accepts) (old new : World) (bytes : List ℕ) (x : Result Accepted Refused)
    → Step channel accepts old bytes x new → StepsAsBefore channel accepts old bytes x new
step_as_before channel accepts old new bytes (Ok accepted) s is none =
    let b = s.0 in
    let first = is_first bytes b none s.1 in
    let linked : was_linked.IsLinked (seen old) (contents_of b) = record { number = s.2.number ∙ sym (height_same old); previous = s.2.previous ∙ previous_same old; data_hash = s.2.data_hash } in (
      (
        contents_of b,
        spells_first bytes b none s.1,
        linked,
        (λ i. record { number = (s.3 i).number; header_hash = (s.3 i).header_hash; flags = (s.3 i).flags })
            ∙ (λ i. record { number = b.header.number; header_hash = header_hash_of b.header; flags = flags_are channel accepts old bytes b first i }),
        ap seen s.4 ∙ world_is channel accepts old bytes b first,
      ),
      subst IsFirst (sym s.4) (still_first channel accepts old bytes b first),
      ap (λ (w : World). w.definitions) s.4 ∙ definitions_are channel accepts old bytes b first,
    )
step_as_before channel accepts old new bytes (Err r) s is none =
    ((refused_first old bytes is none r s.0, ap seen s.1), subst IsFirst (sym s.1) is, ap (λ (w : World). w.definitions) s.1)

-- ---- chains

pub chain_as_before : (channel : Configuration) (submissions : List Submission) (answers : List (Result Accepted Refused)) (old new : World)
    → IsFirst old → old.definitions ≡ channel.definitions → AllByRecursion (λ s. IsNoSecond s.bytes) submissions → Chain channel old submissions answers new
    → was_chain.Chain (seen_channel channel channel.definitions) (seen old) submissions (map seen_answer answers) (seen new)
chain_as_before channel [] [] old new is same each c = ap seen c
chain_as_before channel (s ∷ submissions) (x ∷ answers) old new is same each c =
    let one = step_as_before channel s.accepts old c.0 s.bytes x c.1 is each.0 in (
      seen c.0,
      subst (λ (d : Policies). was_step.Step (seen_channel channel d) s.accepts (seen old) s.bytes (seen_answer x) (seen c.0)) same one.0,
      chain_as_before channel submissions answers c.0 new one.1 (one.2 ∙ same) each.1 c.2,
    )
chain_as_before channel [] (x ∷ answers) old new is same each c = absurd c
chain_as_before channel (s ∷ submissions) [] old new is same each c = absurd c
