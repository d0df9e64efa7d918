-- The state after a block, made at once from the state before it, key by key.
use Rattle.std.proofs.Common.{◌≡◌, ℕ, zero, ◌<◌, Bool, true, false, cond, List, map, length, refl, sym, ◌∙◌, arith}
use Rattle.std.specs.FinMap.{get, same_map}
use Rattle.rules.specs.State.{StateKey, is_among, with_changes}
use Rattle.rules.specs.Job.{Job, candidate_at, operated_by}
use Rattle.rules.specs.Fold.{running, final_state}
use Rattle.rules.specs.Assignment.{Assignment, state_under}
use Rattle.rules.proofs.Keys.{key_cmp_total, key_cmp-IsAntisymmetric}
use Rattle.rules.proofs.Changes.{get-with_changes, each_to}
use Rattle.rules.proofs.PerKey.{row_under, row_under-first, row_under-still, get-state_under}
use Rattle.rules.proofs.Bridge.{valid, state_under-valid}

-- a key that no candidate before n writes keeps its row
pub row_under-unwritten : (j : Job) (called : Assignment) (k : StateKey) (n : ℕ) → ((i : ℕ) → i < n → is_among k (operated_by (candidate_at j i)) ≡ false) → row_under j called k n ≡ get j.state k
row_under-unwritten j called k n none =
    row_under-still j called k zero n (omega arith) (λ h lo hi writes. let wrong : false ≡ true = sym (none h hi) ∙ writes in absurd cc) ∙ row_under-first j called k

-- keys that have all that the candidates before n write
abbrev pub CoversWrites : Job → ℕ → List StateKey → Type 0
CoversWrites j n ks = (k : StateKey) → is_among k ks ≡ false → (i : ℕ) → i < n → is_among k (operated_by (candidate_at j i)) ≡ false

-- the state under an assignment, by the last row of each of these keys alone
pub state_under-by_keys : (j : Job) (called : Assignment) (n : ℕ) (ks : List StateKey) → CoversWrites j n ks → state_under j called n ≡ with_changes j.state (map (λ k. (k, row_under j called k n)) ks)
state_under-by_keys j called n ks covers =
    same_map key_cmp_total key_cmp-IsAntisymmetric (state_under j called n) (with_changes j.state (each_to (λ k. row_under j called k n) ks)) (λ k.
    get-state_under j called n k ∙ by k (is_among k ks) refl ∙ sym (get-with_changes (λ x. row_under j called x n) j.state ks k))
  where
    by : (k : StateKey) (b : Bool) → is_among k ks ≡ b → row_under j called k n ≡ cond b (row_under j called k n) (get j.state k)
    by k true e = refl
    by k false e = row_under-unwritten j called k n (covers k e)

-- the state before candidate n is taken
pub running-by_keys : (j : Job) (n : ℕ) (ks : List StateKey) → CoversWrites j n ks → (running j n).state ≡ with_changes j.state (map (λ k. (k, row_under j (valid j) k n)) ks)
running-by_keys j n ks covers = sym (state_under-valid j n) ∙ state_under-by_keys j (valid j) n ks covers

-- and the one after all
pub final_state-by_keys : (j : Job) (ks : List StateKey) → CoversWrites j (length j.candidates) ks → final_state j ≡ with_changes j.state (map (λ k. (k, row_under j (valid j) k (length j.candidates))) ks)
final_state-by_keys j ks covers = running-by_keys j (length j.candidates) ks covers
