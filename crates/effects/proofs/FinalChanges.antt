-- The changes to the rows that the state after a block has.
use Rattle.std.proofs.Common.{◌≡◌, ℕ, zero, suc, ◌<◌, Bool, true, false, cond, ◌||◌, ◌&&◌, List, [], ◌∷◌, ◌++◌, map, length, get_or, Option, Some, None, refl, sym, ap, subst, ◌∙◌, arith}
use Rattle.std.specs.Prelude.{unwrap_or, slice_get, flat_map}
use Rattle.std.specs.FinMap.{get, same_map}
use Rattle.std.specs.List.{zip, list_all, AllByRecursion}
use Rattle.std.specs.List.Sorted.{IsStrictlySortedBy}
use Rattle.std.specs.declared.cmp.Ordering.TheVariants.{Less}
use Rattle.std.proofs.lemmas.List.Concat.{flat_map-cons}
use Rattle.std.proofs.lemmas.List.Folds.{list_any-append}
use Rattle.rules.specs.declared.row.Row.{Row}
use Rattle.rules.specs.State.{StateKey, State, key_cmp, is_same_key, is_among, with_changes}
use Rattle.rules.specs.Delta.{is_real}
use Rattle.rules.specs.Candidate.{Candidate, flagged}
use Rattle.rules.specs.declared.early_flag.EarlyFlag.TheVariants.{BadPayload}
use Rattle.rules.specs.Job.{Job, candidate_at, operated_by}
use Rattle.rules.specs.Fold.{final_state}
use Rattle.rules.proofs.Booleans.{neither}
use Rattle.rules.proofs.Keys.{key_cmp_total, key_cmp-IsAntisymmetric, same_key_is}
use Rattle.rules.proofs.Changes.{each_to, get-with_changes}
use Rattle.rules.proofs.PerKey.{row_under}
use Rattle.rules.proofs.Bridge.{valid}
use Rattle.rules.proofs.Net.{CoversWrites, final_state-by_keys}
use Rattle.key_chains.specs.Job.{keys_of, written_by}
use Rattle.effects.specs.Rows.{ShowRows, is_real_row, change_at, changes_at}
use Rattle.effects.proofs.EntryOrder.{KeepKeys}

-- ---- the keys that have a change

abbrev changed : List StateKey → List (Option (Option Row)) → List StateKey
changed [] rows = []
changed (k ∷ ks) [] = []
changed (k ∷ ks) (None ∷ rows) = changed ks rows
changed (k ∷ ks) (Some row ∷ rows) = k ∷ changed ks rows

changed_above : (P : StateKey → Type 0) (ks : List StateKey) (rows : List (Option (Option Row))) → AllByRecursion P ks → AllByRecursion P (changed ks rows)
changed_above P [] rows h = tt
changed_above P (k ∷ ks) [] h = tt
changed_above P (k ∷ ks) (None ∷ rows) h = changed_above P ks rows h.1
changed_above P (k ∷ ks) (Some row ∷ rows) h = (h.0, changed_above P ks rows h.1)

changed_rise : (ks : List StateKey) (rows : List (Option (Option Row))) → IsStrictlySortedBy key_cmp ks → IsStrictlySortedBy key_cmp (changed ks rows)
unfolding IsStrictlySortedBy
changed_rise [] rows h = tt
changed_rise (k ∷ ks) [] h = tt
changed_rise (k ∷ ks) (None ∷ rows) h = changed_rise ks rows h.1
changed_rise (k ∷ ks) (Some row ∷ rows) h = (changed_above (λ y. key_cmp k y ≡ Less) ks rows h.0, changed_rise ks rows h.1)

pub changes-cons : (k : StateKey) (ks : List StateKey) (row : Option (Option Row)) (rows : List (Option (Option Row))) → changes_at (k ∷ ks) (row ∷ rows) ≡ change_at k row ++ changes_at ks rows
changes-cons k ks row rows = flat_map-cons (λ p. change_at p.1 p.0) (row, k) (zip rows ks)

no_keys : (rows : List (Option (Option Row))) → changes_at [] rows ≡ []
no_keys [] = refl
no_keys (row ∷ rows) = refl

keys_changed : (ks : List StateKey) (rows : List (Option (Option Row))) → map (λ c. c.0) (changes_at ks rows) ≡ changed ks rows
keys_changed [] rows = ap (map (λ c. c.0)) (no_keys rows)
keys_changed (k ∷ ks) [] = refl
keys_changed (k ∷ ks) (None ∷ rows) = ap (map (λ c. c.0)) (changes-cons k ks None rows) ∙ keys_changed ks rows
keys_changed (k ∷ ks) (Some row ∷ rows) = ap (map (λ c. c.0)) (changes-cons k ks (Some row) rows) ∙ ap (λ l. k ∷ l) (keys_changed ks rows)

pub keys_rise : (ks : List StateKey) (rows : List (Option (Option Row))) → IsStrictlySortedBy key_cmp ks → IsStrictlySortedBy key_cmp (map (λ c. c.0) (changes_at ks rows))
keys_rise ks rows h = subst (IsStrictlySortedBy key_cmp) (sym (keys_changed ks rows)) (changed_rise ks rows h)

-- ---- none removes a key that doesn't exist

module _ (s : State) where
  abbrev Real : List StateKey → List (Option (Option Row)) → Type 0
  Real ks rows = (n : ℕ) (k : StateKey) → slice_get ks n ≡ Some k → is_real_row (get s k) (get_or rows n None) ≡ true

  pub changes_real : (ks : List StateKey) (rows : List (Option (Option Row))) → Real ks rows → list_all (is_real s) (changes_at ks rows) ≡ true
  changes_real [] rows h = ap (list_all (is_real s)) (no_keys rows)
  changes_real (k ∷ ks) [] h = refl
  changes_real (k ∷ ks) (None ∷ rows) h = ap (list_all (is_real s)) (changes-cons k ks None rows) ∙ changes_real ks rows (λ n. h (suc n))
  changes_real (k ∷ ks) (Some row ∷ rows) h =
      ap (list_all (is_real s)) (changes-cons k ks (Some row) rows)
      ∙ ap (λ (b : Bool). b && list_all (is_real s) (changes_at ks rows)) (h 0 k refl) ∙ changes_real ks rows (λ n. h (suc n))

-- ---- what they have

module _ (s t : State) where
  abbrev Show : List StateKey → List (Option (Option Row)) → Type 0
  Show ks rows = (n : ℕ) (k : StateKey) → slice_get ks n ≡ Some k → unwrap_or (get_or rows n None) (get s k) ≡ get t k

  each_changed : (ks : List StateKey) (rows : List (Option (Option Row))) → Show ks rows → changes_at ks rows ≡ each_to (get t) (changed ks rows)
  each_changed [] rows h = no_keys rows
  each_changed (k ∷ ks) [] h = refl
  each_changed (k ∷ ks) (None ∷ rows) h = changes-cons k ks None rows ∙ each_changed ks rows (λ n. h (suc n))
  each_changed (k ∷ ks) (Some row ∷ rows) h =
      changes-cons k ks (Some row) rows ∙ ap (λ r. (k, r) ∷ changes_at ks rows) (h 0 k refl) ∙ ap (λ l. (k, get t k) ∷ l) (each_changed ks rows (λ n. h (suc n)))

  stays : (q k : StateKey) (among : Bool) → (get s k ≡ get t k) → (among ≡ true → get s q ≡ get t q) → (b : Bool) → is_same_key q k ≡ b → (b || among) ≡ true → get s q ≡ get t q
  stays q k among here later true e is = let same : q ≡ k = same_key_is q k e in ap (get s) same ∙ here ∙ ap (get t) (sym same)
  stays q k among here later false e is = later is

  missed : (q : StateKey) (ks : List StateKey) (rows : List (Option (Option Row))) → length rows ≡ length ks → Show ks rows → is_among q ks ≡ true → is_among q (changed ks rows) ≡ false → get s q ≡ get t q
  missed q [] rows many h is not = absurd cc
  missed q (k ∷ ks) [] many h is not = absurd (omega (arith, many))
  missed q (k ∷ ks) (None ∷ rows) many h is not =
      stays q k (is_among q ks) (h 0 k refl) (λ more. missed q ks rows (omega (arith, many)) (λ n. h (suc n)) more not) (is_same_key q k) refl is
  missed q (k ∷ ks) (Some row ∷ rows) many h is not =
      let n = neither (is_same_key q k) (is_among q (changed ks rows)) not in
      missed q ks rows (omega (arith, many)) (λ m. h (suc m)) (sym (ap (λ (b : Bool). b || is_among q ks) n.0) ∙ is) n.1

-- ---- a key that no candidate writes

none_among : (cs : List Candidate) (k : StateKey) (i : ℕ) → is_among k (flat_map written_by cs) ≡ false → i < length cs → is_among k (written_by (get_or cs i (flagged BadPayload))) ≡ false
none_among [] k i none lt = absurd (omega arith)
none_among (c ∷ cs) k i none lt =
    by i lt (neither (is_among k (written_by c)) (is_among k (flat_map written_by cs)) (sym (list_any-append (is_same_key k) (written_by c) (flat_map written_by cs)) ∙ ap (is_among k) (sym (flat_map-cons written_by c cs)) ∙ none))
    (none_among cs k)
  where
    by : (i : ℕ) → i < length (c ∷ cs) → (is_among k (written_by c) ≡ false) × (is_among k (flat_map written_by cs) ≡ false)
        → ((n : ℕ) → is_among k (flat_map written_by cs) ≡ false → n < length cs → is_among k (written_by (get_or cs n (flagged BadPayload))) ≡ false)
        → is_among k (written_by (get_or (c ∷ cs) i (flagged BadPayload))) ≡ false
    by zero lt n later = n.0
    by (suc i) lt n later = later i n.1 (omega arith)

covers : KeepKeys → (j : Job) → CoversWrites j (length j.candidates) (keys_of j)
covers keep j k none i lt = sym (keep k (operated_by (candidate_at j i))) ∙ none_among j.candidates k i (sym (keep k (flat_map written_by j.candidates)) ∙ none) lt

unwritten : KeepKeys → (j : Job) (k : StateKey) → is_among k (keys_of j) ≡ false → get j.state k ≡ get (final_state j) k
unwritten keep j k none =
    let row : StateKey → Option Row = λ x. row_under j (valid j) x (length j.candidates) in
    sym (ap (λ (b : Bool). cond b (row k) (get j.state k)) none) ∙ sym (get-with_changes row j.state (keys_of j) k) ∙ ap (λ (t : State). get t k) (sym (final_state-by_keys j (keys_of j) (covers keep j)))

pub changes_make : KeepKeys → (j : Job) (rows : List (Option (Option Row))) → length rows ≡ length (keys_of j) → ShowRows j rows (final_state j) → with_changes j.state (changes_at (keys_of j) rows) ≡ final_state j
changes_make keep j rows many h =
    ap (with_changes j.state) (each_changed j.state (final_state j) (keys_of j) rows h)
    ∙ same_map key_cmp_total key_cmp-IsAntisymmetric (with_changes j.state (each_to (get (final_state j)) (changed (keys_of j) rows))) (final_state j) (λ q.
    get-with_changes (get (final_state j)) j.state (changed (keys_of j) rows) q ∙ by q (is_among q (changed (keys_of j) rows)) refl)
  where
    left : (q : StateKey) → is_among q (changed (keys_of j) rows) ≡ false → (b : Bool) → is_among q (keys_of j) ≡ b → get j.state q ≡ get (final_state j) q
    left q not true is = missed j.state (final_state j) q (keys_of j) rows many h is not
    left q not false is = unwritten keep j q is

    by : (q : StateKey) (b : Bool) → is_among q (changed (keys_of j) rows) ≡ b → cond b (get (final_state j) q) (get j.state q) ≡ get (final_state j) q
    by q true e = refl
    by q false e = left q e (is_among q (keys_of j)) refl
