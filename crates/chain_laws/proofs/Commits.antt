-- Chains of blocks with the same commit hash at the same height do the same at each height, and their states have the
-- same rows.
use Rattle.std.proofs.Common.{◌≡◌, ℕ, eqb, Bool, true, false, cond, ◌&&◌, List, [], ◌∷◌, ◌++◌, length, map, Option, Some, None, Result, Ok, Err, refl, sym, ap, subst, ◌∙◌, arith, length-append}
use Rattle.std.specs.Prelude.{if◌then◌else◌, option_map, unwrap_or}
use Rattle.std.specs.Str.{bytes_eq}
use Rattle.std.specs.Cmp.Lexicographic.{bytes_decides}
use Rattle.std.specs.Ordering.{eq_by_cmp}
use Rattle.std.specs.FinMap.{get, find}
use Rattle.std.proofs.lemmas.Bool.{eqb-true}
use Rattle.sha2.specs.Sha256.{sha256}
use Rattle.values.specs.Hash.{IsHash}
use Rattle.transaction.specs.declared.transaction.Version.{Version}
use Rattle.transaction.specs.Same.{is_same_version}
use Rattle.channel.specs.Configuration.{Configuration}
use Rattle.rules.specs.declared.answer.Accepted.{Accepted}
use Rattle.rules.specs.declared.answer.Refused.{Refused}
use Rattle.rules.specs.declared.row.Row.{Row}
use Rattle.rules.specs.State.{StateKey, State, ChangeOf, key_cmp}
use Rattle.rules.specs.Differing.{policy_text, is_unchanged, differing}
use Rattle.rules.specs.CommitBytes.{BlockCommit, commit_bytes, commit_hash_before, ToldRow, ToldChange, told_row, told_change, HasRoom}
use Rattle.rules.specs.Fold.{final_state}
use Rattle.rules.specs.World.{World, empty_world, height_of, last_commit_hash}
use Rattle.rules.specs.Commit.{items_of, job_of, commit_by, committed_of, world_after}
use Rattle.rules.specs.Chain.{Submission, Chain}
use Rattle.rules.proofs.Booleans.{both_true}
use Rattle.rules.proofs.Differing.{difference, find-differing}
use Rattle.chain_laws.specs.Room.{WorldHasRoom}
use Rattle.chain_laws.specs.Commits.{Leads, AreCommits, hash_behind, NoneCollide, AreAllToldAlike}
use Rattle.chain_laws.proofs.Blocks.{empty_room, block_room, hash_after, room_after, told_alike}

-- ---- each chain has its commits

commits_from : (channel : Configuration) (cs : List BlockCommit) (old new : World) (submissions : List Submission) (answers : List (Result Accepted Refused))
    → AreCommits channel cs old → Chain channel old submissions answers new → (ds : List BlockCommit) × AreCommits channel ds new
commits_from channel cs old new [] [] so_far c = (cs, subst (AreCommits channel cs) (sym c) so_far)
commits_from channel cs old new (s ∷ submissions) (Ok accepted ∷ answers) so_far c =
    let own : BlockCommit = commit_by c.1.0.version (job_of channel s.accepts old (items_of c.1.0)) in
    let leads : Leads channel old own c.0 = record { accepts = s.accepts; bytes = s.bytes; block = c.1.0; spelled = c.1.1; linked = c.1.2; commit = refl; behind = c.1.4 } in
    commits_from channel (own ∷ cs) c.0 new submissions answers (old, so_far, leads) c.2
commits_from channel cs old new (s ∷ submissions) (Err refused ∷ answers) so_far c = commits_from channel cs c.0 new submissions answers (subst (AreCommits channel cs) (sym c.1.1) so_far) c.2
commits_from channel cs old new [] (x ∷ answers) so_far c = absurd c
commits_from channel cs old new (s ∷ submissions) [] so_far c = absurd c

pub chain_commits : (channel : Configuration) (new : World) (submissions : List Submission) (answers : List (Result Accepted Refused))
    → Chain channel (empty_world channel.definitions) submissions answers new → (cs : List BlockCommit) × AreCommits channel cs new
chain_commits channel new submissions answers c = commits_from channel [] (empty_world channel.definitions) new submissions answers refl c

-- ---- what is known after them

pub record Known (cs : List BlockCommit) (w : World) : Type 0 where
  pub room : WorldHasRoom w
  pub height : height_of w ≡ length cs
  pub hash : commit_hash_before (last_commit_hash w) ≡ hash_behind cs

known_next : (channel : Configuration) (old new : World) (c : BlockCommit) (cs : List BlockCommit) → Known cs old → Leads channel old c new → Known (c ∷ cs) new
known_next channel old new c cs known leads =
    let own = job_of channel leads.accepts old (items_of leads.block) in
    let made : Known (commit_by leads.block.version own ∷ cs) (world_after channel leads.accepts old leads.bytes leads.block) = record {
      room = room_after channel leads.accepts old leads.bytes leads.block known.room leads.spelled leads.linked;
      height = omega (arith, known.height, length-append old.blocks (committed_of leads.bytes (last_commit_hash old) leads.block own ∷ []));
      hash = hash_after channel leads.accepts old leads.bytes leads.block ∙ ap (λ (h : List ℕ). sha256 (h ++ commit_bytes (commit_by leads.block.version own))) known.hash;
    } in
    subst (λ (w : World). Known (c ∷ cs) w) (sym leads.behind) (subst (λ (x : BlockCommit). Known (x ∷ cs) (world_after channel leads.accepts old leads.bytes leads.block)) (sym leads.commit) made)

known : (channel : Configuration) (cs : List BlockCommit) (w : World) → AreCommits channel cs w → Known cs w
known channel [] w are = subst (Known []) (sym are) (record { room = empty_room channel.definitions; height = refl; hash = refl })
known channel (c ∷ cs) w are = known_next channel are.0 w c cs (known channel cs are.0 are.1) are.2

commit_room : (channel : Configuration) (old new : World) (c : BlockCommit) (cs : List BlockCommit) → Known cs old → Leads channel old c new → HasRoom c
commit_room channel old new c cs known leads =
    subst HasRoom (sym leads.commit) (block_room channel leads.accepts old leads.bytes leads.block known.room.rows leads.spelled leads.linked)

-- ---- at each height the commit hashes cover the same

tells : (first second : Configuration) (cs ds : List BlockCommit) (v w : World) → AreCommits first cs v → AreCommits second ds w → length cs ≡ length ds → hash_behind cs ≡ hash_behind ds
    → NoneCollide cs ds → AreAllToldAlike cs ds
tells first second [] [] v w are also long same apart = tt
tells first second (c ∷ cs) (d ∷ ds) v w are also long same apart =
    let one = known first cs are.0 are.1 in
    let other = known second ds also.0 also.1 in
    let told = told_alike (hash_behind cs) (hash_behind ds) c d (subst IsHash one.hash one.room.commit_hash) (subst IsHash other.hash other.room.commit_hash)
    (commit_room first are.0 v c cs one are.2) (commit_room second also.0 w d ds other also.2) (apart.0 same) in
    (told.1, tells first second cs ds are.0 also.0 are.1 also.1 (omega (arith, long)) told.0 apart.1)
tells first second [] (d ∷ ds) v w are also long same apart = absurd (omega (arith, long))
tells first second (c ∷ cs) [] v w are also long same apart = absurd (omega (arith, long))

pub blocks_told : (first second : Configuration) (v w : World) (cs ds : List BlockCommit) → AreCommits first cs v → AreCommits second ds w → height_of v ≡ height_of w
    → last_commit_hash v ≡ last_commit_hash w → NoneCollide cs ds → AreAllToldAlike cs ds
blocks_told first second v w cs ds are also high same apart =
    let one = known first cs v are in
    let other = known second ds w also in
    tells first second cs ds v w are also (sym one.height ∙ high ∙ other.height) (sym one.hash ∙ ap commit_hash_before same ∙ other.hash) apart

-- ---- what the hash covers of the rows that differ gives each row after them

abbrev told : Option Row → Option ToldRow
told o = option_map told_row o

same_version : (a b : Version) → is_same_version a b ≡ true → a ≡ b
same_version a b e =
    let parts = both_true (eqb a.block b.block) (eqb a.tx b.tx) e in
    let block : a.block ≡ b.block = eqb-true _ _ parts.0 in
    let tx : a.tx ≡ b.tx = eqb-true _ _ parts.1 in
    λ i. record { block = block i; tx = tx i }

unchanged_told : (before after : Option Row) → is_unchanged before after ≡ true → told before ≡ told after
unchanged_told None None e = refl
unchanged_told (Some r) (Some s) e =
    let policies = both_true (is_same_version r.version s.version && bytes_eq r.value s.value) (bytes_eq (policy_text r.policy) (policy_text s.policy)) e in
    let values = both_true (is_same_version r.version s.version) (bytes_eq r.value s.value) policies.0 in
    let version = same_version r.version s.version values.0 in
    let value : r.value ≡ s.value = (bytes_decides r.value s.value).0 values.1 in
    let policy : policy_text r.policy ≡ policy_text s.policy = (bytes_decides (policy_text r.policy) (policy_text s.policy)).0 policies.1 in
    λ i. Some (version i, (value i, policy i))
unchanged_told None (Some s) e = absurd cc
unchanged_told (Some r) None e = absurd cc

-- the row after, by that before and by what the hash covers of the change
after_told : (before after : Option Row) → told after ≡ unwrap_or (option_map told (difference before after)) (told before)
after_told before after = by (is_unchanged before after) refl
  where
    by : (b : Bool) → is_unchanged before after ≡ b → told after ≡ unwrap_or (option_map told (if b then None else Some after)) (told before)
    by true e = sym (unchanged_told before after e)
    by false e = refl

abbrev keyed : ToldChange → StateKey × Option ToldRow
keyed t = ((t.0, t.1.0), t.1.1)

found_told : (k : StateKey) (cs : List (ChangeOf Row)) → find key_cmp k (map keyed (map told_change cs)) ≡ option_map told (find key_cmp k cs)
found_told k [] = refl
found_told k (c ∷ cs) = by (eq_by_cmp key_cmp k c.0) (found_told k cs)
  where
    by : (b : Bool) → find key_cmp k (map keyed (map told_change cs)) ≡ option_map told (find key_cmp k cs)
        → cond b (Some (told c.1)) (find key_cmp k (map keyed (map told_change cs))) ≡ option_map told (cond b (Some c.1) (find key_cmp k cs))
    by true rest = refl
    by false rest = rest

change_told : (k : StateKey) (before after : State) → option_map told (difference (get before k) (get after k)) ≡ find key_cmp k (map keyed (map told_change (differing before after)))
change_told k before after = ap (option_map told) (sym (find-differing before after k)) ∙ sym (found_told k (differing before after))

row_behind : (k : StateKey) (before after : State) → told (get after k) ≡ unwrap_or (find key_cmp k (map keyed (map told_change (differing before after)))) (told (get before k))
row_behind k before after = after_told (get before k) (get after k) ∙ ap (λ (o : Option (Option ToldRow)). unwrap_or o (told (get before k))) (change_told k before after)

-- the same in the words of the step
row_led : (channel : Configuration) (old new : World) (c : BlockCommit) (k : StateKey) → Leads channel old c new
    → told (get new.state k) ≡ unwrap_or (find key_cmp k (map keyed (map told_change (differing c.before c.after)))) (told (get old.state k))
row_led channel old new c k leads =
    let own = job_of channel leads.accepts old (items_of leads.block) in
    ap (λ (x : World). told (get x.state k)) leads.behind ∙ row_behind k old.state (final_state own)
    ∙ ap (λ (x : BlockCommit). unwrap_or (find key_cmp k (map keyed (map told_change (differing x.before x.after)))) (told (get old.state k))) (sym leads.commit)

rows_alike : (first second : Configuration) (cs ds : List BlockCommit) (v w : World) → AreCommits first cs v → AreCommits second ds w → AreAllToldAlike cs ds
    → (k : StateKey) → told (get v.state k) ≡ told (get w.state k)
rows_alike first second [] [] v w are also alike k = ap (λ (x : World). told (get x.state k)) are ∙ sym (ap (λ (x : World). told (get x.state k)) also)
rows_alike first second (c ∷ cs) (d ∷ ds) v w are also alike k =
    row_led first are.0 v c k are.2
    ∙ ap (λ (l : List ToldChange). unwrap_or (find key_cmp k (map keyed l)) (told (get are.0.state k))) alike.0.changes
    ∙ ap (unwrap_or (find key_cmp k (map keyed (map told_change (differing d.before d.after))))) (rows_alike first second cs ds are.0 also.0 are.1 also.1 alike.1 k)
    ∙ sym (row_led second also.0 w d k also.2)
rows_alike first second [] (d ∷ ds) v w are also alike k = absurd alike
rows_alike first second (c ∷ cs) [] v w are also alike k = absurd alike

pub rows_told : (first second : Configuration) (v w : World) (cs ds : List BlockCommit) → AreCommits first cs v → AreCommits second ds w → height_of v ≡ height_of w
    → last_commit_hash v ≡ last_commit_hash w → NoneCollide cs ds → (k : StateKey) → option_map told_row (get v.state k) ≡ option_map told_row (get w.state k)
rows_told first second v w cs ds are also high same apart k = rows_alike first second cs ds v w are also (blocks_told first second v w cs ds are also high same apart) k
