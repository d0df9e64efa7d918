-- That conflicts have one ranking.
use Rattle.std.proofs.Common.{◌≡◌, ◌<◌, ℕ, Bool, true, false, ◌||◌, cond, List, [], ◌∷◌, length, get_or, map, refl, sym, ap, ◌∙◌, subst, arith}
use Rattle.std.specs.Prelude.{nat_lt}
use Rattle.std.specs.declared.cmp.Ordering.{Ordering}
use Rattle.std.specs.declared.cmp.Ordering.TheVariants.{Less, Equal, Greater}
use Rattle.std.specs.Ordering.{is_eq, ordering_reverse}
use Rattle.std.specs.Cmp.{eq_by_cmp_equiv}
use Rattle.std.specs.List.{AllByRecursion, list_all, Contains, count_by}
use Rattle.std.specs.List.Sorted.{IsStrictlySortedBy}
use Rattle.std.proofs.lemmas.Bool.{ltb-true, lt-ltb}
use Rattle.std.proofs.lemmas.List.{get_or-map}
use Rattle.std.proofs.lemmas.List.Elements.{recursion_from_All}
use Rattle.std.proofs.lemmas.List.Sums.{sum_by-cons}
use Rattle.std.proofs.lemmas.Map.Entries.{length-keys_of}
use Rattle.std.proofs.lemmas.Map.Keys.{sorted_head, sorted_tail}
use Rattle.std.proofs.lemmas.Map.Views.{Contains-from_any}
use Rattle.rules.specs.State.{StateKey, key_cmp, is_same_key, is_among}
use Rattle.rules.proofs.Booleans.{both_true}
use Rattle.rules.proofs.Keys.{key_ties, same_key_is, same_as_itself}
use Rattle.conflicts.specs.declared.conflict.Conflict.{Conflict}
use Rattle.conflicts.specs.declared.key_counts.KeyCounts.{KeyCounts}
use Rattle.conflicts.specs.KeyCounts.{counts_of, total_of}
use Rattle.conflicts.specs.Ranking.{Line, line_cmp, IsRanking}
use Rattle.conflicts.specs.Tally.{no_counts}
use Rattle.conflicts.specs.LineOrder.{line_cmp_total}
use Rattle.conflicts.proofs.Ranked.{then_equal}
use Rattle.conflicts.proofs.Sums.{once}

abbrev pub keys : List Line → List StateKey
keys lines = map (λ l. l.0) lines

abbrev pub Counted : List Conflict → Line → Type 0
Counted conflicts l = l.1 ≡ counts_of l.0 conflicts

module _ (conflicts : List Conflict) where
  -- of one key
  pub one_key : (a b : Line) → Counted conflicts a → Counted conflicts b → a.0 ≡ b.0 → a ≡ b
  one_key a b p q k =
      let n : a.1 ≡ b.1 = p ∙ ap (λ x. counts_of x conflicts) k ∙ sym q in
      λ i. (k i, n i)

  pub differ : (a b : Line) → Counted conflicts a → Counted conflicts b → line_cmp a b ≡ Less → (same : Bool) → is_same_key a.0 b.0 ≡ same → is_same_key a.0 b.0 ≡ false
  differ a b p q less true e =
      let tied : is_eq (line_cmp a b) ≡ true = ap (λ l. is_eq (line_cmp l b)) (one_key a b p q (same_key_is a.0 b.0 e)) ∙ (eq_by_cmp_equiv line_cmp_total).refl b in
      absurd (cc (ap is_eq less, tied))
  differ a b p q less false e = e

  -- a line below others has a key that none of them has
  pub absent : (a : Line) (ls : List Line) → Counted conflicts a → AllByRecursion (Counted conflicts) ls → AllByRecursion (λ b. line_cmp a b ≡ Less) ls → is_among a.0 (keys ls) ≡ false
  absent a [] p q less = refl
  absent a (b ∷ ls) p q less =
      ap (λ x. x || is_among a.0 (keys ls)) (differ a b p q.0 less.0 (is_same_key a.0 b.0) refl) ∙ absent a ls p q.1 less.1

below : (a b : Line) (ls : List Line) → line_cmp a b ≡ Less → AllByRecursion (λ l. line_cmp b l ≡ Less) ls → AllByRecursion (λ l. line_cmp a l ≡ Less) ls
below a b [] less h = tt
below a b (l ∷ ls) less h = (line_cmp_total.trans a b l less h.0, below a b ls less h.1)

itself : (l : Line) (ls : List Line) → is_among l.0 (keys (l ∷ ls)) ≡ true
itself l ls = ap (λ x. x || is_among l.0 (keys ls)) (same_as_itself l.0)

module _ (conflicts : List Conflict) (a : Line) (ls : List Line) (b : Line) (ms : List Line)
    (p : Counted conflicts a) (ps : AllByRecursion (Counted conflicts) ls) (q : Counted conflicts b) (qs : AllByRecursion (Counted conflicts) ms)
    (s : IsStrictlySortedBy line_cmp (a ∷ ls)) (t : IsStrictlySortedBy line_cmp (b ∷ ms))
    (h : (k : StateKey) → is_among k (keys (a ∷ ls)) ≡ is_among k (keys (b ∷ ms))) where
  heads : (o : Ordering) → line_cmp a b ≡ o → a ≡ b
  heads Less e =
      absurd (cc (itself a ls, h a.0, absent conflicts a (b ∷ ms) p (q, qs) (e, below a b ms e (sorted_head line_cmp b ms t))))
  heads Equal e =
      let tied : key_cmp a.0 b.0 ≡ Equal = then_equal _ (key_cmp a.0 b.0) e in
      one_key conflicts a b p q (same_key_is a.0 b.0 (sym (key_ties a.0 b.0) ∙ ap is_eq tied))
  heads Greater e =
      let back : line_cmp b a ≡ Less = line_cmp_total.antisymm b a ∙ ap ordering_reverse e in
      absurd (cc (itself b ms, h b.0, absent conflicts b (a ∷ ls) q (p, ps) (back, below b a ls back (sorted_head line_cmp a ls s))))

  tails : a ≡ b → (k : StateKey) (same : Bool) → is_same_key k a.0 ≡ same → is_among k (keys ls) ≡ is_among k (keys ms)
  tails one k true e =
      let here : k ≡ a.0 = same_key_is k a.0 e in
      let there : k ≡ b.0 = here ∙ ap (λ l. l.0) one in
      ap (λ x. is_among x (keys ls)) here ∙ absent conflicts a ls p ps (sorted_head line_cmp a ls s)
      ∙ sym (ap (λ x. is_among x (keys ms)) there ∙ absent conflicts b ms q qs (sorted_head line_cmp b ms t))
  tails one k false e =
      let other : is_same_key k b.0 ≡ false = ap (λ l. is_same_key k l.0) (sym one) ∙ e in
      sym (ap (λ x. x || is_among k (keys ls)) e) ∙ h k ∙ ap (λ x. x || is_among k (keys ms)) other

unique : (conflicts : List Conflict) (ls ms : List Line) → AllByRecursion (Counted conflicts) ls → AllByRecursion (Counted conflicts) ms
    → IsStrictlySortedBy line_cmp ls → IsStrictlySortedBy line_cmp ms → ((k : StateKey) → is_among k (keys ls) ≡ is_among k (keys ms)) → ls ≡ ms
unique conflicts [] [] p q s t h = refl
unique conflicts [] (b ∷ ms) p q s t h = absurd (cc (h b.0, itself b ms))
unique conflicts (a ∷ ls) [] p q s t h = absurd (cc (h a.0, itself a ls))
unique conflicts (a ∷ ls) (b ∷ ms) p q s t h =
    let first : a ≡ b = heads conflicts a ls b ms p.0 p.1 q.0 q.1 s t h (line_cmp a b) refl in
    let rest : ls ≡ ms =
    unique conflicts ls ms p.1 q.1 (sorted_tail line_cmp a ls s) (sorted_tail line_cmp b ms t)
    (λ k. tails conflicts a ls b ms p.0 p.1 q.0 q.1 s t h first k (is_same_key k a.0) refl) in
    λ i. first i ∷ rest i

-- ---- the keys of a ranking

each_way : (a b : Bool) → (a ≡ true → b ≡ true) → (b ≡ true → a ≡ true) → a ≡ b
each_way true b there back = sym (there refl)
each_way false true there back = back refl
each_way false false there back = refl

-- a key with a count is among keys that all conflicts have theirs among
reached_by : (k : StateKey) (ks : List StateKey) (c : Conflict) (cs : List Conflict) (same : Bool) → is_same_key c.key k ≡ same
    → (0 < count_by (λ x. is_same_key x.key k) cs → is_among k ks ≡ true) → is_among c.key ks ≡ true
    → 0 < count_by (λ x. is_same_key x.key k) (c ∷ cs) → is_among k ks ≡ true
reached_by k ks c cs true e more first h = ap (λ x. is_among x ks) (sym (same_key_is c.key k e)) ∙ first
reached_by k ks c cs false e more first h =
    let other : ◌≡◌ {A = ℕ} (cond (is_same_key c.key k) 1 0) 0 = ap (λ b. cond b 1 0) e in
    more (omega (arith, h, other, sum_by-cons (λ x. cond (is_same_key x.key k) 1 0) c cs))

reached : (k : StateKey) (ks : List StateKey) (cs : List Conflict) → list_all (λ c. is_among c.key ks) cs ≡ true
    → 0 < count_by (λ c. is_same_key c.key k) cs → is_among k ks ≡ true
reached k ks [] all h =
    let none : 0 < 0 = h in
    absurd (omega (arith, none))
reached k ks (c ∷ cs) all h =
    let both = both_true (is_among c.key ks) (list_all (λ x. is_among x.key ks) cs) all in
    reached_by k ks c cs (is_same_key c.key k) refl (reached k ks cs both.1) both.0 h

module _ (conflicts : List Conflict) (lines : List Line) (ranking : IsRanking conflicts lines) where
  has_something : (k : StateKey) → Contains (keys lines) k → 0 < total_of (counts_of k conflicts)
  has_something k there =
      let in' : there.0 < length lines = omega (arith, there.1, length-keys_of lines) in
      let l = get_or lines there.0 (k, no_counts) in
      let is : l.0 ≡ k = sym (get_or-map (λ (x : Line). x.0) lines there.0 (k, no_counts) k in') ∙ there.2 in
      let found = ranking.counts there.0 (k, no_counts) in' in
      subst (λ (n : KeyCounts). 0 < total_of n) (found.0 ∙ ap (λ x. counts_of x conflicts) is) found.1

  among : (k : StateKey) → is_among k (keys lines) ≡ nat_lt 0 (total_of (counts_of k conflicts))
  among k = each_way (is_among k (keys lines)) (nat_lt 0 (total_of (counts_of k conflicts)))
      (λ e. lt-ltb 0 (total_of (counts_of k conflicts)) (has_something k (Contains-from_any same_key_is k (keys lines) e)))
      (λ e. reached k (keys lines) conflicts ranking.all (subst (λ (n : ℕ). 0 < n) (once k conflicts) (ltb-true 0 (total_of (counts_of k conflicts)) e)))

  pub counted : AllByRecursion (Counted conflicts) lines
  counted = recursion_from_All (Counted conflicts) lines (λ k d l. (ranking.counts k d l).0)

pub one_ranking : (conflicts : List Conflict) (first second : List Line) → IsRanking conflicts first → IsRanking conflicts second → first ≡ second
one_ranking conflicts first second r s =
    unique conflicts first second (counted conflicts first r) (counted conflicts second s) r.order s.order
    (λ k. among conflicts first r k ∙ sym (among conflicts second s k))
