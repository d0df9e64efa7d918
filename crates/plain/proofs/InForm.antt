-- Read and write sets, from the left to the right.
use Rattle.std.proofs.Common.{◌≡◌, ℕ, ◌+◌, ◌<◌, Bool, true, false, List, [], ◌∷◌, ◌&&◌, length, drop, get_or, map, Option, Some, None, refl, sym, ap, ◌∙◌, drop-cons, add-one}
use Rattle.std.specs.declared.cmp.Ordering.{Ordering}
use Rattle.std.specs.declared.cmp.Ordering.TheVariants.{Less, Equal, Greater}
use Rattle.std.specs.Ordering.{is_lt, is_le, is_some_and, nat_cmp, as_partial_cmp}
use Rattle.std.specs.Cmp.Lexicographic.{slice_partial_cmp, lists_agrees, nat_list_cmp_total}
use Rattle.std.specs.FinMap.Entries.{below_all}
use Rattle.transaction.specs.declared.transaction.Version.{Version}
use Rattle.transaction.specs.declared.transaction.KeyVersion.{KeyVersion}
use Rattle.values.specs.Order.{bytes_cmp}
use Rattle.plain.specs.Rising.{are_rising}

-- the order of bytes, as the code compares them
pub before_is : (xs ys : List ℕ) → is_some_and is_lt (slice_partial_cmp (as_partial_cmp nat_cmp) xs ys) ≡ is_lt (bytes_cmp xs ys)
before_is xs ys = ap (is_some_and is_lt) (lists_agrees {R = nat_cmp} {C = as_partial_cmp nat_cmp} (λ x y. refl) xs ys)

pub at_most_is : (xs ys : List ℕ) → is_some_and is_le (slice_partial_cmp (as_partial_cmp nat_cmp) xs ys) ≡ is_le (bytes_cmp xs ys)
at_most_is xs ys = ap (is_some_and is_le) (lists_agrees {R = nat_cmp} {C = as_partial_cmp nat_cmp} (λ x y. refl) xs ys)

-- ---- keys that rise

abbrev pub versions : List KeyVersion → List (List ℕ × Version)
versions xs = map (λ x. (x.key, x.version)) xs

-- results that rise, all above the last one
abbrev pub rise_after : Option (List ℕ) → List KeyVersion → Bool
rise_after None xs = are_rising xs
rise_after (Some last) xs = below_all bytes_cmp last (versions xs) && are_rising xs

is_Less : (o : Ordering) → is_lt o ≡ true → o ≡ Less
is_Less Less e = refl
is_Less Equal e = absurd cc
is_Less Greater e = absurd cc

no_more : (a : Bool) → (a && false) ≡ false
no_more true = refl
no_more false = refl

-- what is above a key is above those below it
above : (k x : List ℕ) → is_lt (bytes_cmp k x) ≡ true → (es : List (List ℕ × Version)) → (below_all bytes_cmp k es && below_all bytes_cmp x es) ≡ below_all bytes_cmp x es
above k x e [] = refl
above k x e (y ∷ es) =
    by (is_lt (bytes_cmp k y.0)) (is_lt (bytes_cmp x y.0)) (below_all bytes_cmp k es) (below_all bytes_cmp x es) (λ h. ap is_lt (nat_list_cmp_total.trans k x y.0 (is_Less (bytes_cmp k x) e) (is_Less (bytes_cmp x y.0) h))) (above k x e es)
  where
    by : (a b c d : Bool) → (b ≡ true → a ≡ true) → (c && d) ≡ d → ((a && c) && (b && d)) ≡ (b && d)
    by true true c d h rest = rest
    by false true c d h rest = absurd (let f = h refl in cc)
    by a false c d h rest = no_more (a && c)

both : (a b s : Bool) → (a && b) ≡ b → (a && (b && s)) ≡ (b && s)
both true b s e = refl
both false b s e = ap (λ (x : Bool). x && s) e

pub one_higher : (last : List ℕ) (x : KeyVersion) (xs : List KeyVersion) → is_lt (bytes_cmp last x.key) ≡ true → rise_after (Some last) (x ∷ xs) ≡ rise_after (Some x.key) xs
one_higher last x xs e =
    rw e (both (below_all bytes_cmp last (versions xs)) (below_all bytes_cmp x.key (versions xs)) (are_rising xs) (above last x.key e (versions xs)))

-- the loop's element
pub at_place : (last : Option (List ℕ)) (xs : List KeyVersion) (i : ℕ) (x : KeyVersion) → i < length xs → x ≡ get_or xs i x → rise_after last (drop i xs) ≡ rise_after last (x ∷ drop (i + 1) xs)
at_place last xs i x lt is =
    ap (rise_after last) (drop-cons xs i x lt)
    ∙ ap (λ (k : ℕ). rise_after last (get_or xs i x ∷ drop k xs)) (sym (add-one i))
    ∙ ap (λ (y : KeyVersion). rise_after last (y ∷ drop (i + 1) xs)) (sym is)
