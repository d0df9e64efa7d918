-- One key's row after the candidates that are called yes.
use Rattle.std.proofs.Common.{◌≡◌, ◌⊎◌, ℕ, zero, suc, ◌<◌, ◌≤◌, Bool, true, false, cond, leb, Option, refl, ap, ◌∙◌, arith, inl, inr}
use Rattle.std.proofs.lemmas.Bool.Decides.{leb_tells}
use Rattle.std.specs.Prelude.{if◌then◌else◌, option_map}
use Rattle.std.specs.FinMap.{get}
use Rattle.transaction.specs.declared.transaction.Version.{Version}
use Rattle.rules.specs.declared.row.Row.{Row}
use Rattle.rules.specs.State.{StateKey, State, is_among}
use Rattle.rules.specs.Effect.{effect_at}
use Rattle.rules.specs.Candidate.{Candidate, flagged, opened, updates}
use Rattle.rules.specs.Job.{Job, candidate_at, version_of, operated_by, state_by}
use Rattle.rules.specs.Assignment.{Assignment, state_under, version_under}
use Rattle.rules.proofs.Changes.{with_changes-none}
use Rattle.rules.proofs.Effects.{get-effect, effect_at-unwritten}

-- what a candidate makes of the row of a key
abbrev pub row_by : Version → Candidate → StateKey → Option Row → Option Row
row_by v (flagged flag) k row = row
row_by v (updates u signers) k row = row
row_by v (opened tx signers) k row = effect_at v tx k row

-- the row of a key once the candidates before i that are called yes are applied, with no other key in sight
unfoldable pub row_under : Job → Assignment → StateKey → ℕ → Option Row
row_under j called k zero = get j.state k
row_under j called k (suc i) = if called i then row_by (version_of j i) (candidate_at j i) k (row_under j called k i) else row_under j called k i

pub get-state_by : (v : Version) (c : Candidate) (s : State) (k : StateKey) → get (state_by v c s) k ≡ row_by v c k (get s k)
get-state_by v (flagged flag) s k = ap (λ (t : State). get t k) (with_changes-none s)
get-state_by v (updates u signers) s k = ap (λ (t : State). get t k) (with_changes-none s)
get-state_by v (opened tx signers) s k = get-effect v tx s k

-- a candidate leaves the rows of keys that it doesn't write
pub row_by-unwritten : (v : Version) (c : Candidate) (k : StateKey) (row : Option Row) → is_among k (operated_by c) ≡ false → row_by v c k row ≡ row
row_by-unwritten v (flagged flag) k row none = refl
row_by-unwritten v (updates u signers) k row none = refl
row_by-unwritten v (opened tx signers) k row none = effect_at-unwritten v tx k row none

get-chosen : (b : Bool) (v : Version) (c : Candidate) (s : State) (k : StateKey) → get (if b then state_by v c s else s) k ≡ (if b then row_by v c k (get s k) else get s k)
get-chosen true v c s k = get-state_by v c s k
get-chosen false v c s k = refl

pub get-state_under : (j : Job) (called : Assignment) (i : ℕ) (k : StateKey) → get (state_under j called i) k ≡ row_under j called k i
unfolding state_under row_under
get-state_under j called zero k = refl
get-state_under j called (suc i) k =
    get-chosen (called i) (version_of j i) (candidate_at j i) (state_under j called i) k
    ∙ ap (λ (r : Option Row). if called i then row_by (version_of j i) (candidate_at j i) k r else r) (get-state_under j called i k)

pub version_under-by_row : (j : Job) (k : StateKey) (called : Assignment) (i : ℕ) → version_under j k called i ≡ option_map (λ row. row.version) (row_under j called k i)
version_under-by_row j k called i = ap (option_map (λ (row : Row). row.version)) (get-state_under j called i k)

-- ---- a walk over the writers of one key

kept_either : (b : Bool) (row other : Option Row) → row ≡ other → cond b row other ≡ other
kept_either true row other e = e
kept_either false row other e = refl

-- a candidate that isn't called yes, or doesn't write the key, leaves its row
pub row_under-skip : (j : Job) (called : Assignment) (k : StateKey) (n : ℕ) → (is_among k (operated_by (candidate_at j n)) ≡ true → called n ≡ false) → row_under j called k (suc n) ≡ row_under j called k n
unfolding row_under
row_under-skip j called k n skipped = by (is_among k (operated_by (candidate_at j n))) refl
  where
    by : (b : Bool) → is_among k (operated_by (candidate_at j n)) ≡ b
        → cond (called n) (row_by (version_of j n) (candidate_at j n) k (row_under j called k n)) (row_under j called k n) ≡ row_under j called k n
    by true writes = ap (λ (b : Bool). cond b (row_by (version_of j n) (candidate_at j n) k (row_under j called k n)) (row_under j called k n)) (skipped writes)
    by false none = kept_either (called n) (row_by (version_of j n) (candidate_at j n) k (row_under j called k n)) (row_under j called k n) (row_by-unwritten (version_of j n) (candidate_at j n) k (row_under j called k n) none)

-- one that is called yes makes its own of it
pub row_under-called : (j : Job) (called : Assignment) (k : StateKey) (n : ℕ) → called n ≡ true → row_under j called k (suc n) ≡ row_by (version_of j n) (candidate_at j n) k (row_under j called k n)
unfolding row_under
row_under-called j called k n is = ap (λ (b : Bool). cond b (row_by (version_of j n) (candidate_at j n) k (row_under j called k n)) (row_under j called k n)) is

-- before all is the state before the block
pub row_under-first : (j : Job) (called : Assignment) (k : StateKey) → row_under j called k zero ≡ get j.state k
unfolding row_under
row_under-first j called k = refl

-- where no writer of the key from m to before n is called yes, its row at n is that at m
pub row_under-still : (j : Job) (called : Assignment) (k : StateKey) (m n : ℕ) → m ≤ n
    → ((h : ℕ) → m ≤ h → h < n → is_among k (operated_by (candidate_at j h)) ≡ true → called h ≡ false) → row_under j called k n ≡ row_under j called k m
row_under-still j called k m zero le none = let same : zero ≡ m = omega arith in ap (row_under j called k) same
row_under-still j called k m (suc n) le none = by (row_under-still j called k m n) (leb_tells m n)
  where
    by : (m ≤ n → ((h : ℕ) → m ≤ h → h < n → is_among k (operated_by (candidate_at j h)) ≡ true → called h ≡ false) → row_under j called k n ≡ row_under j called k m)
        → ((leb m n ≡ true) × (m ≤ n)) ⊎ ((leb m n ≡ false) × (n < m)) → row_under j called k (suc n) ≡ row_under j called k m
    by earlier (inl d) = row_under-skip j called k n (none n d.1 (omega arith)) ∙ earlier d.1 (λ h lo hi. none h lo (omega arith))
    by earlier (inr d) = let same : suc n ≡ m = omega arith in ap (row_under j called k) same
