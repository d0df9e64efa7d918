-- Lists that share one array of links.
use Rattle.std.proofs.Common.{◌≡◌, ◌≢◌, ◌⊎◌, inl, inr, ℕ, zero, suc, ◌+◌, ◌-◌, ◌<◌, ◌≤◌, eqb, leb, Bool, true, false, ◌||◌, List, [], ◌∷◌, length, map, set, get_or, refl, sym, ap, subst, ◌∙◌, add-one, arith}
use Rattle.std.specs.Prelude.{replicate, slice_index}
use Rattle.std.proofs.Math.ListN.{get_or-eq_default}
use Rattle.std.proofs.lemmas.Bool.Decides.{eqb_tells, leb_tells}
use Rattle.std.proofs.lemmas.List.{get_or-set_same, get_or-set_other, get_or-map, get_or-replicate, length-set, length-map, length-replicate, map-set, set-get_or}
use Rattle.task_desk.specs.declared.wait_lists.WaitList.{WaitList}
use Rattle.task_desk.specs.Waiting.{chain, has, list_at}
use Rattle.task_desk.specs.Links.{list_of, AreBelow, IsWithin, AreKept}

-- ---- having

pub same_test : (n : ℕ) → eqb n n ≡ true
same_test n = elim (eqb_tells n n) as (λ _. eqb n n ≡ true) [ inl p ↦ p.0 | inr p ↦ absurd (p.1 refl) ]

pub has-first : (t : ℕ) (ts : List ℕ) → has (t ∷ ts) t ≡ true
has-first t ts = ap (λ b. b || has ts t) (same_test t)

or_right : (a b : Bool) → b ≡ true → (a || b) ≡ true
or_right true b e = refl
or_right false b e = e

or_cases : (a b : Bool) → (a || b) ≡ true → (a ≡ true) ⊎ (b ≡ true)
or_cases true b e = inl refl
or_cases false b e = inr e

or_none : (a b : Bool) → (a || b) ≡ false → (a ≡ false) × (b ≡ false)
or_none true b e = absurd cc
or_none false b e = (refl, e)

pub has-rest : (u t : ℕ) (ts : List ℕ) → has ts t ≡ true → has (u ∷ ts) t ≡ true
has-rest u t ts is = or_right (eqb u t) (has ts t) is

same_by_test : (u t : ℕ) → eqb u t ≡ true → u ≡ t
same_by_test u t is = elim (eqb_tells u t) as (λ _. u ≡ t) [ inl p ↦ p.1 | inr p ↦ absurd (let wrong : false ≡ true = sym p.0 ∙ is in cc) ]

apart_by_test : (u t : ℕ) → eqb u t ≡ false → u ≢ t
apart_by_test u t is e = absurd (let wrong : true ≡ false = sym (same_test t) ∙ ap (λ (n : ℕ). eqb n t) (sym e) ∙ is in cc)

pub below-cons : (t n : ℕ) (ts : List ℕ) → t < n → AreBelow ts n → AreBelow (t ∷ ts) n
below-cons t n ts lt below u is = elim (or_cases (eqb t u) (has ts u) is) as (λ _. u < n) [ inl p ↦ (let same = same_by_test t u p in omega (arith, same, lt)) | inr p ↦ below u p ]

-- ---- lists at a place

pub list_at-set : (lists : List (List ℕ)) (h : ℕ) (ts : List ℕ) → h < length lists → list_at (set lists h ts) h ≡ ts
list_at-set lists h ts lt = get_or-set_same lists h ts [] lt

pub list_at-other : (lists : List (List ℕ)) (h g : ℕ) (ts : List ℕ) → g ≢ h → list_at (set lists h ts) g ≡ list_at lists g
list_at-other lists h g ts apart = get_or-set_other lists h g ts [] apart

-- ---- along the links

pub chain-length : (next : List ℕ) (t count : ℕ) → length (chain next t count) ≡ count
chain-length next t zero = refl
chain-length next t (suc count) = ap suc (chain-length next (slice_index next t) count)

-- a task that isn't on a list may have another link
pub chain-other : (next : List ℕ) (t v from count : ℕ) → has (chain next from count) t ≡ false → chain (set next t v) from count ≡ chain next from count
chain-other next t v from zero none = refl
chain-other next t v from (suc count) none =
    let both = or_none (eqb from t) (has (chain next (slice_index next from) count) t) none in
    ap (λ ts. from ∷ ts) (ap (λ (n : ℕ). chain (set next t v) n count) (get_or-set_other next t from v 0 (apart_by_test from t both.0)) ∙ chain-other next t v (slice_index next from) count both.1)

pub lists-other : (next : List ℕ) (t v : ℕ) (lists : List WaitList) → ((g : ℕ) → has (list_at (map (list_of next) lists) g) t ≡ false) → map (list_of (set next t v)) lists ≡ map (list_of next) lists
lists-other next t v [] none = refl
lists-other next t v (list ∷ lists) none = λ k. chain-other next t v list.first list.count (none 0) k ∷ lists-other next t v lists (λ g. none (suc g)) k

pub list_at-lists : (next : List ℕ) (lists : List WaitList) (h : ℕ) (d : WaitList) → h < length lists → list_at (map (list_of next) lists) h ≡ list_of next (get_or lists h d)
list_at-lists next lists h d lt = get_or-map (list_of next) lists h d [] lt

-- ---- a task is put in front

pub pushed : (next : List ℕ) (lists : List WaitList) (old : List (List ℕ)) (h t : ℕ) (list : WaitList) → map (list_of next) lists ≡ old → h < length lists → t < length next → list ≡ get_or lists h list
    → ((g : ℕ) → has (list_at old g) t ≡ false)
    → map (list_of (set next t list.first)) (set lists h (record { first = t; count = list.count + 1 })) ≡ set old h (t ∷ list_at old h)
pushed next lists old h t list is lt inside at none =
    map-set (list_of next') lists h (record { first = t; count = list.count + 1 })
    ∙ (λ k. set (lists-other next t list.first lists (λ g. ap (λ (ls : List (List ℕ)). has (list_at ls g) t) is ∙ none g) k) h (front k))
    ∙ (λ k. set (is k) h (t ∷ here k))
  where
    next' : List ℕ
    next' = set next t list.first

    here : list_of next list ≡ list_at old h
    here = ap (list_of next) at ∙ sym (list_at-lists next lists h list lt) ∙ ap (λ (ls : List (List ℕ)). list_at ls h) is

    front : chain next' t (list.count + 1) ≡ t ∷ list_of next list
    front =
        ap (λ (n : ℕ). chain next' t n) (add-one list.count)
        ∙ ap (λ ts. t ∷ ts) (ap (λ (n : ℕ). chain next' n list.count) (get_or-set_same next t list.first 0 inside) ∙ chain-other next t list.first list.first list.count (ap (λ (ts : List ℕ). has ts t) here ∙ none h))

-- ---- empty lists

pub no-lists : (next : List ℕ) (n : ℕ) → map (list_of next) (replicate n (record { first = 0; count = 0 })) ≡ replicate n []
no-lists next zero = refl
no-lists next (suc n) = ap (λ ls. [] ∷ ls) (no-lists next n)

pub empty_at : (n g : ℕ) → list_at (replicate n []) g ≡ []
empty_at n g = by (leb_tells n g)
  where
    by : ((leb n g ≡ true) × (n ≤ g)) ⊎ ((leb n g ≡ false) × (g < n)) → list_at (replicate n []) g ≡ []
    by (inl d) = get_or-eq_default (replicate n []) [] (omega (arith, length-replicate {A = List ℕ} n []))
    by (inr d) = get_or-replicate n g [] [] d.1

pub new-within : (next : List ℕ) (lists : List WaitList) (n : ℕ) → next ≡ replicate n 0 → lists ≡ replicate n (record { first = 0; count = 0 }) → IsWithin next lists
new-within next lists n is_next is_lists = record {
  links = ap (λ (xs : List ℕ). length xs) is_next ∙ length-replicate {A = ℕ} n 0 ∙ sym (ap (λ (xs : List WaitList). length xs) is_lists ∙ length-replicate {A = WaitList} n (record { first = 0; count = 0 }));
  tasks = λ g t is. absurd (let wrong : false ≡ true = sym (ap (λ (ts : List ℕ). has ts t) (ap (λ (ls : List WaitList). list_at (map (list_of next) ls) g) is_lists ∙ ap (λ (ls : List (List ℕ)). list_at ls g) (no-lists next n) ∙ empty_at n g)) ∙ is in cc);
}

-- ---- one list changes

within-set : (lists : List (List ℕ)) (n h : ℕ) (ts : List ℕ) → ((g : ℕ) → AreBelow (list_at lists g) n) → AreBelow ts n → h < length lists → (g : ℕ) → AreBelow (list_at (set lists h ts) g) n
within-set lists n h ts below new lt g = by (eqb_tells g h)
  where
    by : ((eqb g h ≡ true) × (g ≡ h)) ⊎ ((eqb g h ≡ false) × (g ≢ h)) → AreBelow (list_at (set lists h ts) g) n
    by (inl d) t is = new t (ap (λ (us : List ℕ). has us t) (sym (ap (list_at (set lists h ts)) d.1 ∙ list_at-set lists h ts lt)) ∙ is)
    by (inr d) t is = below g t (ap (λ (us : List ℕ). has us t) (sym (list_at-other lists h g ts d.1)) ∙ is)

-- a list is emptied
pub cleared : (next : List ℕ) (lists : List WaitList) (old : List (List ℕ)) (h first : ℕ) → map (list_of next) lists ≡ old → map (list_of next) (set lists h (record { first = first; count = 0 })) ≡ set old h []
cleared next lists old h first is = map-set (list_of next) lists h (record { first = first; count = 0 }) ∙ ap (λ (ls : List (List ℕ)). set ls h []) is

pub cleared-within : (next : List ℕ) (lists : List WaitList) (h first : ℕ) → IsWithin next lists → h < length lists → IsWithin next (set lists h (record { first = first; count = 0 }))
cleared-within next lists h first within lt = record {
  links = within.links ∙ sym (length-set lists h (record { first = first; count = 0 }));
  tasks = λ g t is.
      within-set (map (list_of next) lists) (length next) h [] within.tasks (λ u wrong. absurd cc) (omega (arith, length-map lists (list_of next))) g t
      (ap (λ (ls : List (List ℕ)). has (list_at ls g) t) (sym (cleared next lists (map (list_of next) lists) h first refl)) ∙ is);
}

pub pushed-within : (next : List ℕ) (lists : List WaitList) (old : List (List ℕ)) (h t : ℕ) (list : WaitList) → map (list_of next) lists ≡ old → IsWithin next lists → h < length lists → t < length next
    → list ≡ get_or lists h list → ((g : ℕ) → has (list_at old g) t ≡ false)
    → IsWithin (set next t list.first) (set lists h (record { first = t; count = list.count + 1 }))
pushed-within next lists old h t list is within lt inside at none = record {
  links = length-set next t list.first ∙ within.links ∙ sym (length-set lists h (record { first = t; count = list.count + 1 }));
  tasks = λ g u has_u.
      subst (λ (n : ℕ). u < n) (sym (length-set next t list.first))
      (within-set old (length next) h (t ∷ list_at old h) below (below-cons t (length next) (list_at old h) inside (below h)) (let same : length old ≡ length lists = ap (λ (ls : List (List ℕ)). length ls) (sym is) ∙ length-map lists (list_of next) in omega (arith, same, lt)) g u
      (ap (λ (ls : List (List ℕ)). has (list_at ls g) u) (sym (pushed next lists old h t list is lt inside at none)) ∙ has_u));
}
  where
    below : (g : ℕ) → AreBelow (list_at old g) (length next)
    below g u has_u = within.tasks g u (ap (λ (ls : List (List ℕ)). has (list_at ls g) u) is ∙ has_u)

-- how long a list is
pub list-length : (next : List ℕ) (lists : List WaitList) (old : List (List ℕ)) (h : ℕ) (list : WaitList) → map (list_of next) lists ≡ old → h < length lists → list ≡ get_or lists h list → length (list_at old h) ≡ list.count
list-length next lists old h list is lt at =
    ap (λ (ls : List (List ℕ)). length (list_at ls h)) (sym is) ∙ ap (λ (ts : List ℕ). length ts) (list_at-lists next lists h list lt ∙ ap (list_of next) (sym at)) ∙ chain-length next list.first list.count

-- ---- what is left of a list

pub chain-some : (next : List ℕ) (t count : ℕ) → count ≢ 0 → chain next t count ≡ t ∷ chain next (slice_index next t) (count - 1)
chain-some next t zero some = absurd (some refl)
chain-some next t (suc count) some = let one : count ≡ suc count - 1 = omega arith in ap (λ (n : ℕ). t ∷ chain next (slice_index next t) n) one

pub first-below : (next : List ℕ) (t count : ℕ) → count ≢ 0 → AreBelow (chain next t count) (length next) → t < length next
first-below next t count some below = below t (ap (λ (ts : List ℕ). has ts t) (chain-some next t count some) ∙ has-first t (chain next (slice_index next t) (count - 1)))

pub rest-below : (next : List ℕ) (t count : ℕ) → count ≢ 0 → AreBelow (chain next t count) (length next) → AreBelow (chain next (slice_index next t) (count - 1)) (length next)
rest-below next t count some below u is = below u (ap (λ (ts : List ℕ). has ts u) (chain-some next t count some) ∙ has-rest t u (chain next (slice_index next t) (count - 1)) is)

-- ---- what is kept beside the lists

pub new-kept : (next : List ℕ) (lists : List WaitList) (n : ℕ) → n ≤ 8192 → next ≡ replicate n 0 → lists ≡ replicate n (record { first = 0; count = 0 }) → AreKept next lists false
new-kept next lists n small is_next is_lists = record {
  within = new-within next lists n is_next is_lists;
  small = let same : length lists ≡ n = ap (λ (xs : List WaitList). length xs) is_lists ∙ length-replicate {A = WaitList} n (record { first = 0; count = 0 }) in omega (arith, same, small);
  none = λ e g. ap (λ (ls : List WaitList). list_at (map (list_of next) ls) g) is_lists ∙ ap (λ (ls : List (List ℕ)). list_at ls g) (no-lists next n) ∙ empty_at n g;
}

pub cleared-kept : (next : List ℕ) (lists : List WaitList) (h first : ℕ) (some : Bool) → AreKept next lists some → h < length lists → some ≡ true → AreKept next (set lists h (record { first = first; count = 0 })) some
cleared-kept next lists h first some kept lt is = record {
  within = cleared-within next lists h first kept.within lt;
  small = let small = kept.small in omega (arith, small, length-set lists h (record { first = first; count = 0 }));
  none = λ e. absurd (let wrong : true ≡ false = sym is ∙ e in cc);
}

pub cleared-empty : (lists : List (List ℕ)) (h : ℕ) → list_at lists h ≡ [] → lists ≡ set lists h []
cleared-empty lists h empty = sym (ap (set lists h) (sym empty) ∙ set-get_or lists h [])

pub pushed-kept : (next : List ℕ) (lists : List WaitList) (old : List (List ℕ)) (h t : ℕ) (list : WaitList) (some : Bool) → map (list_of next) lists ≡ old → AreKept next lists some → h < length lists → t < length next
    → list ≡ get_or lists h list → ((g : ℕ) → has (list_at old g) t ≡ false)
    → AreKept (set next t list.first) (set lists h (record { first = t; count = list.count + 1 })) true
pushed-kept next lists old h t list some is kept lt inside at none = record {
  within = pushed-within next lists old h t list is kept.within lt inside at none;
  small = let small = kept.small in omega (arith, small, length-set lists h (record { first = t; count = list.count + 1 }));
  none = λ e. absurd (let wrong : true ≡ false = e in cc);
}
