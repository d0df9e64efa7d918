-- What a key has in lines after one conflict is counted.
use Rattle.std.proofs.Common.{◌≡◌, ◌≤◌, ℕ, ◌+◌, Bool, true, false, cond, List, [], ◌∷◌, ◌++◌, Option, Some, None, refl, sym, ap, ◌∙◌, subst, arith}
use Rattle.std.specs.Prelude.{unwrap_or, is_some}
use Rattle.std.specs.BTreeMap.{is_at}
use Rattle.std.specs.Map.{lookup}
use Rattle.rules.specs.State.{StateKey, key_cmp, is_same_key}
use Rattle.rules.proofs.Keys.{key_ties, same_key_is}
use Rattle.conflicts.specs.declared.conflict.Conflict.{Conflict}
use Rattle.conflicts.specs.declared.key_counts.KeyCounts.{KeyCounts}
use Rattle.conflicts.specs.KeyCounts.{counts_of, total_of}
use Rattle.conflicts.specs.Ranking.{Line}
use Rattle.conflicts.specs.Tally.{no_counts, counts_in, has_line, with_conflict, IsWithin, CountsKeys}
use Rattle.conflicts.proofs.Counting.{one_more, total_more, in_block_more}

set_or : (b : Bool) (v : KeyCounts) (o : Option KeyCounts) → unwrap_or (cond b (Some v) o) no_counts ≡ cond b v (unwrap_or o no_counts)
set_or true v o = refl
set_or false v o = refl

-- the lines new are those of old, but that the key has v
abbrev pub IsSet : StateKey → KeyCounts → List Line → List Line → Type 0
IsSet k v old new = (q : StateKey) → lookup (is_at (key_cmp q)) new ≡ cond (is_at (key_cmp k) q) (Some v) (lookup (is_at (key_cmp q)) old)

module _ (k : StateKey) (v : KeyCounts) (old new : List Line) (h : IsSet k v old new) where
  pub set_counts : (q : StateKey) → counts_in new q ≡ cond (is_same_key k q) v (counts_in old q)
  set_counts q =
      ap (λ o. unwrap_or o no_counts) (h q)
      ∙ ap (λ b. unwrap_or (cond b (Some v) (lookup (is_at (key_cmp q)) old)) no_counts) (key_ties k q)
      ∙ set_or (is_same_key k q) v (lookup (is_at (key_cmp q)) old)

module _ (c : Conflict) (v : KeyCounts) (old new : List Line) (h : IsSet c.key v old new) (is : v ≡ with_conflict c.kind c.in_block (counts_in old c.key)) where
  counted_at : (before : List Conflict) → CountsKeys before old → (q : StateKey) (b : Bool) → is_same_key c.key q ≡ b
      → cond b v (counts_in old q) ≡ cond b (with_conflict c.kind c.in_block (counts_of q before)) (counts_of q before)
  counted_at before counts q true e =
      is ∙ ap (λ k. with_conflict c.kind c.in_block (counts_in old k)) (same_key_is c.key q e) ∙ ap (with_conflict c.kind c.in_block) (counts q)
  counted_at before counts q false e = counts q

  -- of one conflict more
  pub counts_more : (before : List Conflict) → CountsKeys before old → CountsKeys (before ++ c ∷ []) new
  counts_more before counts q =
      set_counts c.key v old new h q ∙ counted_at before counts q (is_same_key c.key q) refl ∙ sym (one_more q before c)

  within_at : (n : ℕ) → IsWithin n old → (q : StateKey) (b : Bool)
      → (total_of (cond b v (counts_in old q)) ≤ n + 1) × ((cond b v (counts_in old q)).in_block ≤ n + 1)
  within_at n within q true =
      let most = within c.key in
      let total = ap total_of is ∙ total_more c.kind c.in_block (counts_in old c.key) in
      let block : v.in_block ≤ (counts_in old c.key).in_block + 1 = subst (λ (m : KeyCounts). m.in_block ≤ (counts_in old c.key).in_block + 1) (sym is) (in_block_more c.kind c.in_block (counts_in old c.key)) in
      (omega (arith, total, most.0), omega (arith, block, most.1))
  within_at n within q false =
      let most = within q in
      (omega (arith, most.0), omega (arith, most.1))

  pub within_more : (n : ℕ) → IsWithin n old → IsWithin (n + 1) new
  within_more n within q =
      subst (λ (m : KeyCounts). (total_of m ≤ n + 1) × (m.in_block ≤ n + 1)) (sym (set_counts c.key v old new h q)) (within_at n within q (is_same_key c.key q))

-- ---- a line of no counts

absent : (o : Option KeyCounts) → is_some o ≡ false → unwrap_or o no_counts ≡ no_counts
absent None e = refl
absent (Some n) e = absurd cc

module _ (k : StateKey) (old new : List Line) (h : IsSet k no_counts old new) (none : has_line old k ≡ false) where
  none_at : (q : StateKey) (b : Bool) → is_same_key k q ≡ b → cond b no_counts (counts_in old q) ≡ counts_in old q
  none_at q true e = sym (ap (counts_in old) (sym (same_key_is k q e)) ∙ absent (lookup (is_at (key_cmp k)) old) none)
  none_at q false e = refl

  pub none_more : (q : StateKey) → counts_in new q ≡ counts_in old q
  none_more q = set_counts k no_counts old new h q ∙ none_at q (is_same_key k q) refl
