-- Which keys in their order stand before a bound.
use Rattle.std.proofs.Common.{◌≡◌, ◌≢◌, ◌⊎◌, inl, inr, ℕ, zero, suc, ◌-◌, ◌<◌, ◌≤◌, ◌==◌, leb, min, Bool, true, false, cond, ◌&&◌, ◌||◌, List, [], ◌∷◌, length, get_or, take, drop, refl, sym, ap, ◌∙◌, arith}
use Rattle.std.specs.Str.{bytes_eq}
use Rattle.std.specs.List.{filter}
use Rattle.std.specs.declared.cmp.Ordering.{Ordering}
use Rattle.std.specs.declared.cmp.Ordering.TheVariants.{Less, Equal, Greater}
use Rattle.std.specs.Ordering.{is_lt, is_le, ordering_then, ordering_reverse}
use Rattle.std.specs.Cmp.{tied_itself}
use Rattle.std.specs.Cmp.Lexicographic.{nat_list_cmp_total, bytes_decides}
use Rattle.std.specs.FinMap.{slice_cmp-IsAntisymmetric, nat_cmp-IsAntisymmetric}
use Rattle.std.specs.List.Sorted.{IsStrictlySortedBy, IsPartitionedBy, IsPartitionPoint}
use Rattle.std.proofs.lemmas.Bool.Decides.{leb_tells, eqb_tells}
use Rattle.values.specs.Order.{bytes_cmp}
use Rattle.rules.specs.State.{StateKey, key_cmp, is_same_key, is_among}
use Rattle.rules.specs.Ranges.{is_below, is_within}
use Rattle.rules.proofs.Keys.{key_cmp_total, same_key_is}
use Rattle.rules.proofs.Booleans.{both_true, or-true}
use Rattle.candidates.proofs.Rising.{is_Less}
use Rattle.key_chains.specs.Job.{keys_where}
use Rattle.key_chains.specs.Building.{stands_below}
use Rattle.key_chains.proofs.NumberedKeys.{rises}

-- two places are one, or the first is earlier
earlier_or_same : (i j : ℕ) → i ≤ j → (i ≡ j) ⊎ (i < j)
earlier_or_same i j le = by (leb_tells (suc i) j)
  where
    by : ((leb (suc i) j ≡ true) × (suc i ≤ j)) ⊎ ((leb (suc i) j ≡ false) × (j < suc i)) → (i ≡ j) ⊎ (i < j)
    by (inl h) = inr h.1
    by (inr h) = inl (omega (arith, h.1, le))

pub parted_before : (ks : List StateKey) (w : StateKey) → IsStrictlySortedBy key_cmp ks → IsPartitionedBy (λ k. is_lt (key_cmp k w)) ks
parted_before ks w rise i j d le lt h = by (earlier_or_same i j le)
  where
    by : (i ≡ j) ⊎ (i < j) → is_lt (key_cmp (get_or ks i d) w) ≡ true
    by (inl e) = ap (λ (n : ℕ). is_lt (key_cmp (get_or ks n d) w)) e ∙ h
    by (inr e) = ap is_lt (key_cmp_total.trans (get_or ks i d) (get_or ks j d) w (rises ks i j d rise e lt) (is_Less (key_cmp (get_or ks j d) w) h))

namespaces_rise : (a b : StateKey) (namespace : List ℕ) → key_cmp a b ≡ Less → is_le (bytes_cmp b.0 namespace) ≡ true → is_le (bytes_cmp a.0 namespace) ≡ true
namespaces_rise a b namespace less h = by (bytes_cmp a.0 b.0) refl less (bytes_cmp b.0 namespace) refl h
  where
    by : (o : Ordering) → bytes_cmp a.0 b.0 ≡ o → ordering_then o (bytes_cmp a.1 b.1) ≡ Less → (p : Ordering) → bytes_cmp b.0 namespace ≡ p → is_le p ≡ true → is_le (bytes_cmp a.0 namespace) ≡ true
    by Less e l Less f h = ap is_le (nat_list_cmp_total.trans a.0 b.0 namespace e f)
    by Less e l Equal f h =
        let same : b.0 ≡ namespace = slice_cmp-IsAntisymmetric nat_cmp-IsAntisymmetric b.0 namespace f in ap is_le (ap (bytes_cmp a.0) (sym same) ∙ e)
    by Less e l Greater f h = absurd cc
    by Equal e l p f h = ap is_le (nat_list_cmp_total.congr a.0 b.0 namespace e ∙ f) ∙ h
    by Greater e l p f h = absurd cc

pub parted_through : (ks : List StateKey) (namespace : List ℕ) → IsStrictlySortedBy key_cmp ks → IsPartitionedBy (λ k. is_le (bytes_cmp k.0 namespace)) ks
parted_through ks namespace rise i j d le lt h = by (earlier_or_same i j le)
  where
    by : (i ≡ j) ⊎ (i < j) → is_le (bytes_cmp (get_or ks i d).0 namespace) ≡ true
    by (inl e) = ap (λ (n : ℕ). is_le (bytes_cmp (get_or ks n d).0 namespace)) e ∙ h
    by (inr e) = namespaces_rise (get_or ks i d) (get_or ks j d) namespace (rises ks i j d rise e lt) h

-- ---- bounds of a namespace

in_namespace : (k : StateKey) (namespace bound : List ℕ) → k.0 ≡ namespace → key_cmp k (namespace, bound) ≡ bytes_cmp k.1 bound
in_namespace k namespace bound e =
    ap (λ (o : Ordering). ordering_then o (bytes_cmp k.1 bound)) (ap (λ (n : List ℕ). bytes_cmp n namespace) e ∙ tied_itself nat_list_cmp_total namespace)

-- what passes the test stands before the point
pub before_point : (p : StateKey → Bool) (ks : List StateKey) (point n : ℕ) (d : StateKey) → IsPartitionPoint (λ k. p k ≡ true) (λ k. p k ≡ false) ks point → n < length ks → p (get_or ks n d) ≡ true → n < point
before_point p ks point n d parts lt h = by (leb_tells (suc n) point)
  where
    by : ((leb (suc n) point ≡ true) × (suc n ≤ point)) ⊎ ((leb (suc n) point ≡ false) × (point < suc n)) → n < point
    by (inl e) = e.1
    by (inr e) = let no = parts.1 n d (omega (arith, e.1)) lt in absurd cc

-- and what doesn't, not
pub behind_point : (p : StateKey → Bool) (ks : List StateKey) (point n : ℕ) (d : StateKey) → IsPartitionPoint (λ k. p k ≡ true) (λ k. p k ≡ false) ks point → p (get_or ks n d) ≡ false → point ≤ n
behind_point p ks point n d parts h = by (leb_tells point n)
  where
    by : ((leb point n ≡ true) × (point ≤ n)) ⊎ ((leb point n ≡ false) × (n < point)) → point ≤ n
    by (inl e) = e.1
    by (inr e) = let yes = parts.0 n d (omega arith) e.1 in absurd cc

-- ---- the keys of a namespace in bounds

at_least : (o : Ordering) → is_lt o ≡ false → is_le (ordering_reverse o) ≡ true
at_least Less e = absurd cc
at_least Equal e = refl
at_least Greater e = refl

not_less : (o : Ordering) → is_le o ≡ true → is_lt (ordering_reverse o) ≡ false
not_less Less e = refl
not_less Equal e = refl
not_less Greater e = absurd cc

module _ (namespace : List ℕ) where
  -- behind the namespaces before this one, and before those behind it
  in_it : (k : StateKey) (start end : List ℕ) → is_lt (key_cmp k (namespace, start)) ≡ false → stands_below namespace end k ≡ true → k.0 ≡ namespace
  in_it k start end from to = by (bytes_cmp k.0 namespace) refl from (below end to)
    where
      through : (o later : Ordering) → is_lt (ordering_then o later) ≡ true → is_le o ≡ true
      through Less later e = refl
      through Equal later e = refl
      through Greater later e = absurd cc

      below : (end : List ℕ) → stands_below namespace end k ≡ true → is_le (bytes_cmp k.0 namespace) ≡ true
      below [] e = e
      below (b ∷ bs) e = through (bytes_cmp k.0 namespace) (bytes_cmp k.1 (b ∷ bs)) e

      by : (o : Ordering) → bytes_cmp k.0 namespace ≡ o → is_lt (ordering_then o (bytes_cmp k.1 start)) ≡ false → is_le o ≡ true → k.0 ≡ namespace
      by Less e f t = absurd cc
      by Equal e f t = slice_cmp-IsAntisymmetric nat_cmp-IsAntisymmetric k.0 namespace e
      by Greater e f t = absurd cc

  -- the key stands from the start on and before the end, and so lies in the bounds
  lies_within : (k : StateKey) (start end : List ℕ) → is_lt (key_cmp k (namespace, start)) ≡ false → stands_below namespace end k ≡ true → (bytes_eq namespace k.0 && is_within start end k.1) ≡ true
  lies_within k start end from to =
      rw ((bytes_decides namespace k.0).1 (sym same), ap is_le (nat_list_cmp_total.antisymm start k.1) ∙ at_least (bytes_cmp k.1 start) (sym (ap is_lt (in_namespace k namespace start same)) ∙ from), below end to) refl
    where
      same : k.0 ≡ namespace
      same = in_it k start end from to

      below : (end : List ℕ) → stands_below namespace end k ≡ true → is_below k.1 end ≡ true
      below [] e = refl
      below (b ∷ bs) e = sym (ap is_lt (in_namespace k namespace (b ∷ bs) same)) ∙ e

  -- and the other way round
  stands_within : (k : StateKey) (start end : List ℕ) → (bytes_eq namespace k.0 && is_within start end k.1) ≡ true → (is_lt (key_cmp k (namespace, start)) ≡ false) × (stands_below namespace end k ≡ true)
  stands_within k start end h =
      let own = both_true (bytes_eq namespace k.0) (is_within start end k.1) h in
      let bounds = both_true (is_le (bytes_cmp start k.1)) (is_below k.1 end) own.1 in
      let same : k.0 ≡ namespace = sym ((bytes_decides namespace k.0).0 own.0) in
      (ap is_lt (in_namespace k namespace start same ∙ nat_list_cmp_total.antisymm k.1 start) ∙ not_less (bytes_cmp start k.1) bounds.0, below same end bounds.1)
    where
      below : k.0 ≡ namespace → (end : List ℕ) → is_below k.1 end ≡ true → stands_below namespace end k ≡ true
      below same [] e = ap is_le (ap (λ (n : List ℕ). bytes_cmp n namespace) same ∙ tied_itself nat_list_cmp_total namespace)
      below same (b ∷ bs) e = ap is_lt (in_namespace k namespace (b ∷ bs) same) ∙ e

-- ---- a part of a list

nothing_before : (n : ℕ) → ◌≡◌ {A = List StateKey} (take n []) []
nothing_before zero = refl
nothing_before (suc n) = refl

nothing_behind : (n : ℕ) → ◌≡◌ {A = List StateKey} (drop n []) []
nothing_behind zero = refl
nothing_behind (suc n) = refl

-- what a test passes of a list is the part in which it passes all, where it passes none besides
pub passed_part : (p : StateKey → Bool) (ks : List StateKey) (low high : ℕ)
    → ((n : ℕ) (d : StateKey) → n < length ks → low ≤ n → n < high → p (get_or ks n d) ≡ true)
    → ((n : ℕ) (d : StateKey) → n < length ks → p (get_or ks n d) ≡ true → (low ≤ n) × (n < high))
    → take (high - low) (drop low ks) ≡ filter p ks
passed_part p [] low high in_part passed = ap (take (high - low)) (nothing_behind low) ∙ nothing_before (high - low)
passed_part p (k ∷ ks) zero zero in_part passed =
    by (p k) refl (passed_part p ks zero zero (λ n d lt from to. absurd (omega (arith, to))) (λ n d lt q. absurd (let h = passed (suc n) d (omega (arith, lt)) q in omega (arith, h.1))))
  where
    by : (b : Bool) → p k ≡ b → [] ≡ filter p ks → [] ≡ filter p (k ∷ ks)
    by true e later = absurd (let h = passed 0 k (omega arith) e in omega (arith, h.1))
    by false e later = later ∙ ap (λ (b : Bool). cond b (k ∷ filter p ks) (filter p ks)) (sym e)
passed_part p (k ∷ ks) zero (suc high) in_part passed =
    let one_more : suc high - 0 ≡ suc (high - 0) = omega arith in
    ap (λ (m : ℕ). take m (k ∷ ks)) one_more
    ∙ ap (λ (xs : List StateKey). k ∷ xs) (passed_part p ks zero high (λ n d lt from to. in_part (suc n) d (omega (arith, lt)) (omega arith) (omega (arith, to)))
    (λ n d lt q. let h = passed (suc n) d (omega (arith, lt)) q in (omega arith, omega (arith, h.1))))
    ∙ ap (λ (b : Bool). cond b (k ∷ filter p ks) (filter p ks)) (sym (in_part 0 k (omega arith) (omega arith) (omega arith)))
passed_part p (k ∷ ks) (suc low) zero in_part passed =
    by (p k) refl (ap (λ (m : ℕ). take m (drop low ks)) (omega arith) ∙ passed_part p ks low zero (λ n d lt from to. absurd (omega (arith, to))) (λ n d lt q. absurd (let h = passed (suc n) d (omega (arith, lt)) q in omega (arith, h.1))))
  where
    by : (b : Bool) → p k ≡ b → take (zero - suc low) (drop low ks) ≡ filter p ks → take (zero - suc low) (drop low ks) ≡ filter p (k ∷ ks)
    by true e later = absurd (let h = passed 0 k (omega arith) e in omega (arith, h.0))
    by false e later = later ∙ ap (λ (b : Bool). cond b (k ∷ filter p ks) (filter p ks)) (sym e)
passed_part p (k ∷ ks) (suc low) (suc high) in_part passed =
    by (p k) refl (
    ap (λ (m : ℕ). take m (drop low ks)) (omega arith)
    ∙ passed_part p ks low high (λ n d lt from to. in_part (suc n) d (omega (arith, lt)) (omega (arith, from)) (omega (arith, to)))
    (λ n d lt q. let h = passed (suc n) d (omega (arith, lt)) q in (omega (arith, h.0), omega (arith, h.1))))
  where
    by : (b : Bool) → p k ≡ b → take (suc high - suc low) (drop low ks) ≡ filter p ks → take (suc high - suc low) (drop low ks) ≡ filter p (k ∷ ks)
    by true e later = absurd (let h = passed 0 k (omega arith) e in omega (arith, h.0))
    by false e later = later ∙ ap (λ (b : Bool). cond b (k ∷ filter p ks) (filter p ks)) (sym e)

-- the keys of a namespace in bounds are those between their points
pub between_points : (ks : List StateKey) (namespace start end : List ℕ) (point low high : ℕ)
    → IsPartitionPoint (λ k. is_lt (key_cmp k (namespace, start)) ≡ true) (λ k. is_lt (key_cmp k (namespace, start)) ≡ false) ks point
    → IsPartitionPoint (λ k. stands_below namespace end k ≡ true) (λ k. stands_below namespace end k ≡ false) ks high
    → low ≡ min point high → take (high - low) (drop low ks) ≡ keys_where ks namespace (is_within start end)
between_points ks namespace start end point low high from to is = passed_part (λ k. bytes_eq namespace k.0 && is_within start end k.1) ks low high inside passed
  where
    behind : (n : ℕ) → low ≤ n → n < high → point ≤ n
    behind n above below = omega (arith, is, above, below)

    inside : (n : ℕ) (d : StateKey) → n < length ks → low ≤ n → n < high → (bytes_eq namespace (get_or ks n d).0 && is_within start end (get_or ks n d).1) ≡ true
    inside n d lt above below = lies_within namespace (get_or ks n d) start end (from.1 n d (behind n above below) lt) (to.0 n d (omega arith) below)

    passed : (n : ℕ) (d : StateKey) → n < length ks → (bytes_eq namespace (get_or ks n d).0 && is_within start end (get_or ks n d).1) ≡ true → (low ≤ n) × (n < high)
    passed n d lt h =
        let stands = stands_within namespace (get_or ks n d) start end h in
        let above : point ≤ n = behind_point (λ k. is_lt (key_cmp k (namespace, start))) ks point n d from stands.0 in
        (omega (arith, is, above), before_point (stands_below namespace end) ks high n d to lt stands.1)

-- a key that passes is among those that do
pub among_passed : (p : StateKey → Bool) (ks : List StateKey) (k : StateKey) → p k ≡ true → is_among k ks ≡ true → is_among k (filter p ks) ≡ true
among_passed p [] k passes among = absurd cc
among_passed p (x ∷ ks) k passes among = by (is_same_key k x) refl among (among_passed p ks k passes)
  where
    later : (b : Bool) → is_among k (filter p ks) ≡ true → is_among k (cond b (x ∷ filter p ks) (filter p ks)) ≡ true
    later true e = ap (λ (b : Bool). is_same_key k x || b) e ∙ or-true (is_same_key k x)
    later false e = e

    by : (b : Bool) → is_same_key k x ≡ b → (b || is_among k ks) ≡ true → (is_among k ks ≡ true → is_among k (filter p ks) ≡ true) → is_among k (filter p (x ∷ ks)) ≡ true
    by true same e others =
        ap (λ (b : Bool). is_among k (cond b (x ∷ filter p ks) (filter p ks))) (ap p (sym (same_key_is k x same)) ∙ passes) ∙ ap (λ (b : Bool). b || is_among k (filter p ks)) same
    by false same e others = later (p x) (others e)

-- ---- an end

-- behind all of its namespace, where it is empty
pub below_empty : (namespace end : List ℕ) (k : StateKey) → (length end == 0) ≡ true → is_le (bytes_cmp k.0 namespace) ≡ stands_below namespace end k
below_empty namespace [] k e = refl
below_empty namespace (b ∷ bs) k e = by (eqb_tells (length (b ∷ bs)) 0)
  where
    by : (((length (b ∷ bs) == 0) ≡ true) × (length (b ∷ bs) ≡ 0)) ⊎ (((length (b ∷ bs) == 0) ≡ false) × (length (b ∷ bs) ≢ 0)) → is_le (bytes_cmp k.0 namespace) ≡ stands_below namespace (b ∷ bs) k
    by (inl h) = absurd (omega (arith, h.1))
    by (inr h) = let no = h.0 in absurd cc

pub below_bound : (namespace end : List ℕ) (k : StateKey) → (length end == 0) ≡ false → is_lt (key_cmp k (namespace, end)) ≡ stands_below namespace end k
below_bound namespace [] k e = absurd cc
below_bound namespace (b ∷ bs) k e = refl

pub same_point : (p q : StateKey → Bool) (ks : List StateKey) (point : ℕ) → ((k : StateKey) → p k ≡ q k) → IsPartitionPoint (λ k. p k ≡ true) (λ k. p k ≡ false) ks point → IsPartitionPoint (λ k. q k ≡ true) (λ k. q k ≡ false) ks point
same_point p q ks point same h = ((λ n d from to. sym (same (get_or ks n d)) ∙ h.0 n d from to), (λ n d from to. sym (same (get_or ks n d)) ∙ h.1 n d from to))
