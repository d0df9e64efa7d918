-- Checks in order leave no cell unknown.
use Rattle.std.proofs.Common.{◌≡◌, ◌⊎◌, inl, inr, ℕ, zero, suc, ◌+◌, ◌<◌, ◌≤◌, true, false, leb, Option, Some, None, List, [], ◌∷◌, ◌++◌, length, map, refl, sym, ap, subst, ◌∙◌, arith}
use Rattle.std.specs.Prelude.{IsSome}
use Rattle.std.specs.List.{range_with_len}
use Rattle.std.proofs.lemmas.Bool.Decides.{leb_tells}
use Rattle.std.proofs.lemmas.List.FromFn.{fill_by_all}
use Rattle.rules.specs.declared.event.Event.{Event}
use Rattle.rules.specs.declared.event.Event.TheVariants.{Endorse, Reads}
use Rattle.rules.specs.Job.{Job}
use Rattle.rules.specs.Fold.{endorsed, flag}
use Rattle.rules.specs.Machine.{Board, known, first_board, full_board, checks_in_order, Run, ShowsFold}
use Rattle.rules.proofs.Sound.{runs_show, shows-run}
use Rattle.rules.proofs.Runs.{Keeps, steps_keep, runs_keep, runs_have_lengths, endorse_decides, reads_decide}

-- a run of two lists of events is two runs
pub run-split : (j : Job) (es fs : List Event) (a c : Board) → Run j a (es ++ fs) c → (b : Board) × Run j a es b × Run j b fs c
run-split j [] fs a c r = (a, refl, r)
run-split j (e ∷ es) fs a c r = let rest = run-split j es fs r.0 c r.2 in (rest.0, (r.0, r.1, rest.1), rest.2)

-- as many cells as candidates
abbrev pub Fits : Job → Board → Type 0
Fits j b = (length b.endorsements ≡ length j.candidates) × (length b.flags ≡ length j.candidates)

fits-kept : (j : Job) (b c : Board) → Keeps b c → Fits j b → Fits j c
fits-kept j b c kept fits = (kept.lengths.0 ∙ fits.0, kept.lengths.1 ∙ fits.1)

-- the cells before n are known
abbrev KnowsBefore : {X : Type 0} → List (Option X) → ℕ → Type 0
KnowsBefore cells n = (h : ℕ) → h < n → IsSome (known cells h)

none_before : {X : Type 0} (cells : List (Option X)) → KnowsBefore cells 0
none_before cells h lt = absurd (omega arith)

some_value : {X : Type 0} (o : Option X) → IsSome o → (x : X) × (o ≡ Some x)
some_value None some = absurd cc
some_value (Some x) some = (x, refl)

is_some-by : {X : Type 0} (o : Option X) (x : X) → o ≡ Some x → IsSome o
is_some-by None x e = absurd cc
is_some-by (Some y) x e = refl

stays-known : {X : Type 0} (old new : List (Option X)) → ((i : ℕ) (x : X) → known old i ≡ Some x → known new i ≡ Some x) → (h : ℕ) → IsSome (known old h) → IsSome (known new h)
stays-known old new keeps h some = let value = some_value (known old h) some in is_some-by (known new h) value.0 (keeps h value.0 value.1)

-- one cell more
one_more : {X : Type 0} (cells : List (Option X)) (n : ℕ) → KnowsBefore cells n → IsSome (known cells n) → KnowsBefore cells (n + 1)
one_more cells n all last h lt = by (leb_tells n h)
  where
    by : ((leb n h ≡ true) × (n ≤ h)) ⊎ ((leb n h ≡ false) × (h < n)) → IsSome (known cells h)
    by (inl d) = let same : n ≡ h = omega arith in subst (λ (x : ℕ). IsSome (known cells x)) same last
    by (inr d) = all h d.1

-- ---- endorsements

pub endorsements_in_order : (j : Job) (a k : ℕ) (b c : Board) → a + k ≡ length j.candidates → Fits j b → KnowsBefore b.endorsements a
    → Run j b (map Endorse (range_with_len a k)) c → KnowsBefore c.endorsements (length j.candidates)
endorsements_in_order j a zero b c e fits all r = λ h lt. subst (λ (x : Board). IsSome (known x.endorsements h)) (sym r) (all h (omega arith))
endorsements_in_order j a (suc k) b c e fits all r =
    let kept = steps_keep j (Endorse a) b r.0 r.1 in
    let here = endorse_decides j a b r.0 (omega arith) (omega (arith, fits.0)) (λ h d. all h d.0) r.1 in
    endorsements_in_order j (a + 1) k r.0 c (omega arith) (fits-kept j b r.0 kept fits)
    (one_more r.0.endorsements a (λ h lt. stays-known b.endorsements r.0.endorsements kept.endorsements h (all h lt)) here) r.2

-- ---- flags

pub reads_in_order : (j : Job) (a k : ℕ) (b c : Board) → a + k ≡ length j.candidates → Fits j b → KnowsBefore b.endorsements (length j.candidates) → KnowsBefore b.flags a
    → Run j b (map Reads (range_with_len a k)) c → KnowsBefore c.flags (length j.candidates)
reads_in_order j a zero b c e fits endorsed all r = λ h lt. subst (λ (x : Board). IsSome (known x.flags h)) (sym r) (all h (omega arith))
reads_in_order j a (suc k) b c e fits endorsed all r =
    let kept = steps_keep j (Reads a) b r.0 r.1 in
    let here = reads_decide j a b r.0 (omega arith) (omega (arith, fits.1)) (endorsed a (omega arith)) (λ h d. all h d.0) r.1 in
    reads_in_order j (a + 1) k r.0 c (omega arith) (fits-kept j b r.0 kept fits)
    (λ h lt. stays-known b.endorsements r.0.endorsements kept.endorsements h (endorsed h lt))
    (one_more r.0.flags a (λ h lt. stays-known b.flags r.0.flags kept.flags h (all h lt)) here) r.2

-- ---- the whole board

-- a row of known cells that are these values is the row of these values
row-is : {X : Type 0} (cells : List (Option X)) (value : ℕ → X) (n : ℕ) → length cells ≡ n → KnowsBefore cells n → ((i : ℕ) (x : X) → known cells i ≡ Some x → x ≡ value i) → cells ≡ map (λ i. Some (value i)) (range_with_len 0 n)
row-is {X} cells value n long all shows = fill_by_all (λ i. Some (value i)) cells n None long (λ i lt.
    let x = some_value (known cells i) (all i lt) in
    x.1 ∙ ap (λ (y : X). Some y) (shows i x.0 x.1))

pub in_order-full : (j : Job) (es : List Event) (b c : Board) → Run j (first_board j) es b → Run j b (checks_in_order j) c → c ≡ full_board j
in_order-full j es b c before r =
    let halves = run-split j (map Endorse (range_with_len 0 (length j.candidates))) (map Reads (range_with_len 0 (length j.candidates))) b c r in
    let fits : Fits j b = runs_have_lengths j es b before in
    let first = runs_keep j (map Endorse (range_with_len 0 (length j.candidates))) b halves.0 halves.1 in
    let second = runs_keep j (map Reads (range_with_len 0 (length j.candidates))) halves.0 c halves.2 in
    let fits_mid : Fits j halves.0 = fits-kept j b halves.0 first fits in
    let fits_end : Fits j c = fits-kept j halves.0 c second fits_mid in
    let endorsements = endorsements_in_order j 0 (length j.candidates) b halves.0 (omega arith) fits (none_before b.endorsements) halves.1 in
    let flags = reads_in_order j 0 (length j.candidates) halves.0 c (omega arith) fits_mid endorsements (none_before halves.0.flags) halves.2 in
    let shows : ShowsFold j c = shows-run j (checks_in_order j) b c (runs_show j es b before) r in
    let row = row-is c.endorsements (endorsed j) (length j.candidates) fits_end.0 (λ h lt. stays-known halves.0.endorsements c.endorsements second.endorsements h (endorsements h lt)) shows.endorsements in
    let flag_row = row-is c.flags (flag j) (length j.candidates) fits_end.1 flags shows.flags in
    λ i. record { endorsements = row i; flags = flag_row i }
