-- Each step keeps the rule of the words: a word becomes what it was, or the fold's verdict.
use Rattle.std.proofs.Common.{◌≡◌, ◌≢◌, ◌⊎◌, inl, inr, ⊎_elim, ℕ, zero, suc, ◌*◌, ◌<◌, List, [], ◌∷◌, length, get_or, set, replicate, slice_index, refl, sym, ap, ◌∙◌, subst, arith, length-set, get_or-set_other}
use Rattle.std.proofs.lemmas.Bool.{cases_eq}
use Rattle.std.proofs.lemmas.List.{length-replicate}
use Rattle.std.proofs.lemmas.Grind.{get_or-set_at}
use mathlib.Core.Option.{some, some-injective, some-ne-none}
use lib.ListN.{get_elem?}
use Rattle.atomic_table.specs.Table.{State, Me, keeps, Allows, Enters, opening}
use Rattle.atomic_table.proofs.Lists.{at_set, at_snoc}
use Rattle.rules.specs.Job.{Job}
use Rattle.verdict_words.specs.declared.view.View.{View}
use Rattle.verdict_words.specs.Cells.{Within, verdict_word}
use Rattle.verdict_words.specs.Words.{IsSeen, IsFound, Learns, fresh}
use Rattle.verdict_words.specs.Seats.{Waits, Sits}
use Rattle.verdict_words.specs.Laws.{within_on}

-- what holds at one place of a list whose place i has become m
at_place : (xs : List ℕ) (i k m : ℕ) (P : ℕ → Type 0) → i < length xs → (k ≡ i → P m) → (k ≢ i → P (get_or xs k 0)) → P (get_or (set xs i m) k 0)
at_place xs i k m P lt here there =
    ⊎_elim (λ is. subst P (sym (get_or-set_at xs i k m 0 is lt)) (here is)) (λ apart. subst P (sym (get_or-set_other xs i k m 0 apart)) (there apart)) (cases_eq k i)

no_word : (n k : ℕ) → slice_index (replicate n 0) k ≡ 0
no_word zero k = refl
no_word (suc n) zero = refl
no_word (suc n) (suc k) = no_word n k

none_known : (n : ℕ) (given : ℕ → ℕ) → Within (replicate n 0) given
none_known n given k = inl (no_word n k)

-- the word of a task becomes m: what it was, or its verdict
module _ (words : List ℕ) (truth : ℕ → ℕ) (task m : ℕ) (lt : task < length words) (fold : Within words truth) (change : (m ≡ get_or words task 0) ⊎ (m ≡ truth task)) where
  still_fold : Within (set words task m) truth
  still_fold k = at_place words task k m (λ x. (x ≡ 0) ⊎ (x ≡ truth k)) lt
      (λ is. let same : truth task ≡ truth k = ap truth (sym is) in
      ⊎_elim (λ was. ⊎_elim (λ z. inl (was ∙ z)) (λ t. inr (was ∙ (t ∙ same))) (fold task)) (λ t. inr (t ∙ same)) change)
      (λ _. fold k)

  still_stands : (xs : List ℕ) → Within xs (slice_index words) → Within xs (slice_index (set words task m))
  still_stands xs stands k = at_place words task k m (λ x. (get_or xs k 0 ≡ 0) ⊎ (get_or xs k 0 ≡ x)) lt
      (λ is. let same : get_or words k 0 ≡ get_or words task 0 = ap (λ i. get_or words i 0) is in
      ⊎_elim inl (λ e. ⊎_elim (λ was. inr (e ∙ (same ∙ sym was)))
      (λ t. ⊎_elim (λ z. inl (e ∙ (same ∙ z))) (λ was. inr (e ∙ (same ∙ (was ∙ sym t)))) (fold task)) change) (stands k))
      (λ _. stands k)

  now_stands : (xs : List ℕ) → length xs ≡ length words → Within xs (slice_index words) → Within (set xs task m) (slice_index (set words task m))
  now_stands xs count stands k = let in_xs : task < length xs = omega arith in at_place xs task k m (λ y. (y ≡ 0) ⊎ (y ≡ get_or (set words task m) k 0)) in_xs
      (λ is. inr (sym (get_or-set_at words task k m 0 is lt)))
      (λ _. still_stands xs stands k)

  now_more : (xs : List ℕ) → length xs ≡ length words → Within xs (slice_index words) → Within xs (slice_index (set xs task m))
  now_more xs count stands k = let in_xs : task < length xs = omega arith in at_place xs task k m (λ y. (get_or xs k 0 ≡ 0) ⊎ (get_or xs k 0 ≡ y)) in_xs
      (λ is. let here : get_or (set words task m) k 0 ≡ m = get_or-set_at words task k m 0 is lt in ⊎_elim inl (λ e. inr (e ∙ here)) (still_stands xs stands k))
      (λ _. inr refl)

-- a step by which the word of a task becomes f of what it was
allowed : (j : Job) (slots id task : ℕ) (me : Me ℕ View) (f : ℕ → ℕ) → task < 2 * length j.candidates
    → ((s : State ℕ View) → IsFound j s → IsSeen j s.words me.0 → (f (slice_index s.words task) ≡ slice_index s.words task) ⊎ (f (slice_index s.words task) ≡ verdict_word j task))
    → Allows (IsFound j) slots id me task f (λ n after. Learns task (f n) me.0 after.0 × (after.1 ≡ me.1))
allowed j slots id task me f lt change s found homes at fits =
    let m : ℕ = f (slice_index s.words task) in
    let mine : IsSeen j s.words me.0 = found.seats id me.0 at in
    let how = change s found mine in
    let w : View = record { known = set me.0.known task m; job = me.0.job } in
    let in_words : task < length s.words = let n = found.count in omega arith in
    let fold : Within (set s.words task m) (verdict_word j) = still_fold s.words (verdict_word j) task m in_words found.fold how in
    let stands : Within w.known (slice_index (set s.words task m)) = now_stands s.words (verdict_word j) task m in_words found.fold how me.0.known mine.count mine.stands in (
      w,
      keeps,
      tt,
      record {
        count = length-set s.words task m ∙ found.count;
        fold = fold;
        seats = λ seat v e. ⊎_elim
            (λ it. subst (IsSeen j (set s.words task m)) it.1 record { job = mine.job; count = length-set me.0.known task m ∙ (mine.count ∙ sym (length-set s.words task m)); stands = stands })
            (λ it. let other = found.seats seat v it.1 in record { job = other.job; count = other.count ∙ sym (length-set s.words task m); stands = still_stands s.words (verdict_word j) task m in_words found.fold how v.known other.stands })
            (at_set s.views id seat w v e);
      },
      (
        record {
          known = refl;
          job = refl;
          stays = now_more s.words (verdict_word j) task m in_words found.fold how me.0.known mine.count mine.stands;
          fold = subst (λ (x : Job). Within w.known (verdict_word x)) (sym mine.job) (within_on w.known (set s.words task m) (verdict_word j) stands fold);
        },
        refl,
      ),
    )

pub loads : (j : Job) (slots id task : ℕ) (me : Me ℕ View) → task < 2 * length j.candidates → Allows (IsFound j) slots id me task (λ n. n) (λ n after. Learns task n me.0 after.0 × (after.1 ≡ me.1))
loads j slots id task me lt = allowed j slots id task me (λ n. n) lt (λ s found mine. inl refl)

-- what is stored is the fold's verdict, if what the seat knows is the fold's
pub stores : (j : Job) (slots id task word : ℕ) (me : Me ℕ View) → task < 2 * length j.candidates → (Within me.0.known (verdict_word j) → word ≡ verdict_word j task)
    → Allows (IsFound j) slots id me task (λ _. word) (λ _ after. Learns task word me.0 after.0 × (after.1 ≡ me.1))
stores j slots id task word me lt is = allowed j slots id task me (λ _. word) lt (λ s found mine. inr (is (within_on me.0.known s.words (verdict_word j) mine.stands found.fold)))

-- ---- the beginning

fresh_seen : (j : Job) (words : List ℕ) → length words ≡ 2 * length j.candidates → IsSeen j words (fresh j)
fresh_seen j words count = record { job = refl; count = length-replicate (2 * length j.candidates) 0 ∙ sym count; stands = none_known (2 * length j.candidates) (slice_index words) }

only_fresh : (j : Job) (words : List ℕ) → length words ≡ 2 * length j.candidates → (seat : ℕ) (v : View) → get_elem? (fresh j ∷ []) seat ≡ some v → IsSeen j words v
only_fresh j words count zero v at = subst (IsSeen j words) (some-injective (fresh j) v at) (fresh_seen j words count)
only_fresh j words count (suc seat) v at = absurd (some-ne-none v (sym at))

pub opens : (j : Job) (words homes : List ℕ) → words ≡ replicate (2 * length j.candidates) 0 → IsFound j (opening words homes (fresh j))
opens j words homes is = let count : length words ≡ 2 * length j.candidates = ap length is ∙ length-replicate (2 * length j.candidates) 0 in record {
  count = count;
  fold = subst (λ (xs : List ℕ). Within xs (verdict_word j)) (sym is) (none_known (2 * length j.candidates) (verdict_word j));
  seats = only_fresh j words count;
}

-- one more seat, which knows nothing
pub enters : (j : Job) (slots task : ℕ) → Enters (IsFound j) slots task (λ n w. ◌≡◌ {A = Me ℕ View} (w, []) (fresh j, []))
enters j slots task s found homes fits = (
  fresh j,
  record {
    count = found.count;
    fold = found.fold;
    seats = λ seat v at. ⊎_elim (found.seats seat v) (λ is. subst (IsSeen j s.words) is (fresh_seen j s.words found.count)) (at_snoc s.views (fresh j) v seat at);
  },
  refl,
)

pub sits_fresh : (j : Job) (words : ℕ) (me : Me ℕ View) → words ≡ 2 * length j.candidates → me ≡ (fresh j, []) → Sits j words me
sits_fresh j words me count is = subst (Sits j words) (sym is) record {
  free = refl;
  job = refl;
  words = count;
  count = length-replicate (2 * length j.candidates) 0;
  fold = none_known (2 * length j.candidates) (verdict_word j);
}

pub waits_for_smaller : (j : Job) (task h : ℕ) → Waits j task h → h < task
waits_for_smaller j task h waits =
    ⊎_elim (λ a. omega (arith, a.2, a.3, a.4.0)) (λ rest. ⊎_elim (λ b. omega (arith, b.1, b.2)) (λ d. omega (arith, d.2, d.3, d.4.0)) rest) waits
