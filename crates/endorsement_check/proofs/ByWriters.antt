-- Whether a key was touched, by the list of the candidates that write its policy.
use Rattle.std.proofs.Common.{◌≡◌, ℕ, zero, suc, ◌<◌, ◌≤◌, Bool, true, false, cond, ◌&&◌, ◌||◌, List, [], ◌∷◌, refl, sym, ap, subst, ◌∙◌, arith, All}
use Rattle.std.specs.List.{list_any, Contains}
use Rattle.std.proofs.lemmas.List.Elements.{All-cons, All-nil, Contains-append_right}
use Rattle.rules.specs.State.{StateKey, is_among}
use Rattle.rules.specs.Job.{Job, candidate_at, touched_by}
use Rattle.rules.specs.Assignment.{Assignment, touched_under}
use Rattle.rules.proofs.Booleans.{and-false}
use Rattle.rules.proofs.Touched.{touched_under-step}
use Rattle.key_chains.specs.PolicyWriters.{policy_writers}

one_more : (writes said : Bool) (called : Assignment) (n : ℕ) (ws : List ℕ) → called n ≡ said → ((said && writes) || list_any called ws) ≡ list_any called (cond writes (n ∷ ws) ws)
one_more true true called n ws e = ap (λ (b : Bool). b || list_any called ws) (sym e)
one_more true false called n ws e = ap (λ (b : Bool). b || list_any called ws) (sym e)
one_more false said called n ws e = ap (λ (b : Bool). b || list_any called ws) (and-false said)

pub touched_by_writers : (j : Job) (k : StateKey) (called : Assignment) (i : ℕ) → is_among k (touched_under j called i) ≡ list_any called (policy_writers j.candidates k i)
unfolding policy_writers touched_under
touched_by_writers j k called zero = refl
touched_by_writers j k called (suc n) =
    touched_under-step j called k n
    ∙ ap (λ (b : Bool). (called n && is_among k (touched_by (candidate_at j n))) || b) (touched_by_writers j k called n)
    ∙ one_more (is_among k (touched_by (candidate_at j n))) (called n) called n (policy_writers j.candidates k n) refl

-- ---- who they are

-- a candidate before m that writes the policy of the key
abbrev pub IsWriter : Job → StateKey → ℕ → ℕ → Type 0
IsWriter j k m h = (h < m) × (is_among k (touched_by (candidate_at j h)) ≡ true)

one_writer : (j : Job) (k : StateKey) (m n : ℕ) (ws : List ℕ) (writes : Bool) → n < m → All (IsWriter j k m) ws → is_among k (touched_by (candidate_at j n)) ≡ writes → All (IsWriter j k m) (cond writes (n ∷ ws) ws)
one_writer j k m n ws true lt rest e = All-cons (IsWriter j k m) n ws (lt, e) rest
one_writer j k m n ws false lt rest e = rest

writers_to : (j : Job) (k : StateKey) (m i : ℕ) → i ≤ m → All (IsWriter j k m) (policy_writers j.candidates k i)
unfolding policy_writers
writers_to j k m zero le = All-nil (IsWriter j k m)
writers_to j k m (suc n) le = one_writer j k m n (policy_writers j.candidates k n) (is_among k (touched_by (candidate_at j n))) le (writers_to j k m n (omega arith)) refl

pub all_writers : (j : Job) (k : StateKey) (i : ℕ) → All (IsWriter j k i) (policy_writers j.candidates k i)
all_writers j k i = writers_to j k i i (omega arith)

-- ---- the loop over them

-- one more that didn't pass
pub one_failed : (called : Assignment) (all left rest : List ℕ) (h : ℕ) → left ≡ h ∷ rest → called h ≡ false → list_any called all ≡ list_any called left → list_any called all ≡ list_any called rest
one_failed called all left rest h first no_one so_far = so_far ∙ ap (list_any called) first ∙ ap (λ (b : Bool). b || list_any called rest) no_one

pub one_passed : (called : Assignment) (all left rest : List ℕ) (h : ℕ) → left ≡ h ∷ rest → called h ≡ true → list_any called all ≡ list_any called left → list_any called all ≡ true
one_passed called all left rest h first passed so_far = so_far ∙ ap (list_any called) first ∙ ap (λ (b : Bool). b || list_any called rest) passed

pub behind_first : (left rest : List ℕ) (h n : ℕ) → left ≡ h ∷ rest → Contains rest n → Contains left n
behind_first left rest h n first has = subst (λ (l : List ℕ). Contains l n) (sym first) (Contains-append_right (h ∷ []) rest n has)
