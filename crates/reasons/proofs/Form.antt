-- Sets have a fault where they aren't in form, and nowhere else.
use Rattle.std.proofs.Common.{◌≡◌, ℕ, suc, Bool, true, false, cond, not, ◌&&◌, List, [], ◌∷◌, map, Option, Some, None, is_none, is_some, option_map, option_and_then, option_to_list, Result, Ok, Err, Ordering, Less, Equal, Greater, is_lt, refl, sym, ◌∙◌}
use Rattle.std.specs.List.{list_any, list_all}
use Rattle.std.specs.Result.{result_ok, result_err}
use Rattle.std.specs.Str.{bytes_eq}
use Rattle.std.specs.Cmp.Lexicographic.{nat_list_cmp_total}
use Rattle.std.specs.FinMap.Entries.{below_all, is_sorted}
use Rattle.transaction.specs.declared.transaction.KeyVersion.{KeyVersion}
use Rattle.transaction.specs.declared.transaction.NsSet.{NsSet}
use Rattle.transaction.specs.declared.transaction.PolicyWrite.{PolicyWrite}
use Rattle.transaction.specs.declared.transaction.Range.{Range}
use Rattle.transaction.specs.declared.transaction.Tx.{Tx}
use Rattle.transaction.specs.declared.transaction.Version.{Version}
use Rattle.values.specs.Order.{bytes_cmp}
use Rattle.policy.specs.Tree.{Tree}
use Rattle.policy.specs.Fault.{Fault}
use Rattle.policy.specs.Meaning.{policy_or_fault}
use Rattle.rules.specs.Ranges.{is_within}
use Rattle.rules.specs.ReadWriteSets.{are_distinct, has_results_in_form, has_policy_in_form, is_set_in_form, is_in_form}
use Rattle.rules.proofs.Booleans.{both_true}
use Rattle.reasons.specs.declared.form_fault.FormFault.{FormFault}
use Rattle.reasons.specs.declared.form_fault.FormFault.TheVariants.{NamespaceRepeats, KeyRepeats, ResultFalls, ResultLeaves, UnreadablePolicy}
use Rattle.reasons.specs.declared.key_list.KeyList.TheVariants.{Reads, Writes, PolicyWrites}
use Rattle.reasons.specs.First.{first_there}
use Rattle.reasons.specs.Form.{first_repeated, first_fallen, first_outside, result_in, range_fault, ranges_fault, text_fault, policy_fault, set_fault, form_fault}
use Rattle.reasons.proofs.Differences.{lower}
use Rattle.reasons.proofs.Lists.{some_if, and-same, all-same, none-or, none-map, none-first_there}

-- ---- repeats

repeats : (xs : List (List ℕ)) → is_none (first_repeated xs) ≡ are_distinct xs
repeats [] = refl
repeats (x ∷ xs) = by (list_any (bytes_eq x) xs) (repeats xs)
  where
    by : (b : Bool) → is_none (first_repeated xs) ≡ are_distinct xs → is_none (cond b (Some x) (first_repeated xs)) ≡ (not b && are_distinct xs)
    by true rest = refl
    by false rest = rest

key_repeats : (f : List ℕ → FormFault) (xs : List (List ℕ)) → is_none (option_map f (first_repeated xs)) ≡ are_distinct xs
key_repeats f xs = none-map f (first_repeated xs) ∙ repeats xs

-- ---- ranges

with_more : (b s : Bool) → (s ≡ true → b ≡ true) → s ≡ (b && s)
with_more true s h = refl
with_more false true h = sym (h refl)
with_more false false h = refl

abbrev keys_of : List KeyVersion → List (List ℕ)
keys_of xs = map (λ x. x.key) xs

abbrev versions_of : List KeyVersion → List (List ℕ × Version)
versions_of xs = map (λ x. (x.key, x.version)) xs

falls : (place : ℕ) (xs : List KeyVersion) → is_none (first_fallen place (keys_of xs)) ≡ is_sorted bytes_cmp (versions_of xs)
falls place [] = refl
falls place (x ∷ []) = refl
falls place (x ∷ y ∷ ys) = by (bytes_cmp x.key y.key) refl (falls (suc place) (y ∷ ys))
  where
    by : (o : Ordering) → bytes_cmp x.key y.key ≡ o → is_none (first_fallen (suc place) (keys_of (y ∷ ys))) ≡ is_sorted bytes_cmp (versions_of (y ∷ ys))
        → is_none (cond (is_lt o) (first_fallen (suc place) (keys_of (y ∷ ys))) (Some (suc place, y.key))) ≡ ((is_lt o && below_all bytes_cmp x.key (versions_of ys)) && is_sorted bytes_cmp (versions_of (y ∷ ys)))
    by Less e rest = rest ∙ with_more (below_all bytes_cmp x.key (versions_of ys)) (is_sorted bytes_cmp (versions_of (y ∷ ys)))
        (λ sorted. lower nat_list_cmp_total x.key y.key e (versions_of ys) (both_true (below_all bytes_cmp y.key (versions_of ys)) (is_sorted bytes_cmp (versions_of ys)) sorted).0)
    by Equal e rest = refl
    by Greater e rest = refl

leaves : (start end : List ℕ) (place : ℕ) (xs : List KeyVersion) → is_none (first_outside start end place (keys_of xs)) ≡ list_all (λ x. is_within start end x.key) xs
leaves start end place [] = refl
leaves start end place (x ∷ xs) = by (is_within start end x.key) (leaves start end (suc place) xs)
  where
    by : (b : Bool) → is_none (first_outside start end (suc place) (keys_of xs)) ≡ list_all (λ y. is_within start end y.key) xs
        → is_none (cond b (first_outside start end (suc place) (keys_of xs)) (Some (place, x.key))) ≡ (b && list_all (λ y. is_within start end y.key) xs)
    by true rest = rest
    by false rest = refl

range_in_form : (namespace : List ℕ) (range_place : ℕ) (r : Range) → is_none (range_fault namespace range_place r) ≡ has_results_in_form r
range_in_form namespace range_place r =
    let falls_at : ℕ × List ℕ → FormFault = λ found. ResultFalls (result_in namespace range_place r found) in
    let leaves_at : ℕ × List ℕ → FormFault = λ found. ResultLeaves (result_in namespace range_place r found) in
    none-or (option_map falls_at (first_fallen 0 (keys_of r.results))) (option_map leaves_at (first_outside r.start r.end 0 (keys_of r.results)))
    ∙ and-same (none-map falls_at (first_fallen 0 (keys_of r.results)) ∙ falls 0 r.results)
    (none-map leaves_at (first_outside r.start r.end 0 (keys_of r.results)) ∙ leaves r.start r.end 0 r.results)

ranges_in_form : (namespace : List ℕ) (range_place : ℕ) (rs : List Range) → is_none (ranges_fault namespace range_place rs) ≡ list_all has_results_in_form rs
ranges_in_form namespace range_place [] = refl
ranges_in_form namespace range_place (r ∷ rs) =
    none-or (range_fault namespace range_place r) (ranges_fault namespace (suc range_place) rs)
    ∙ and-same (range_in_form namespace range_place r) (ranges_in_form namespace (suc range_place) rs)

-- ---- policies

policy_in_form : (namespace : List ℕ) (w : PolicyWrite) → is_none (policy_fault namespace w) ≡ has_policy_in_form w
policy_in_form namespace w = by w.policy
  where
    read : (text : List ℕ) (r : Result Tree Fault) → is_none (option_map (λ f. UnreadablePolicy namespace w.key (text_fault f)) (result_err r)) ≡ (is_some (result_ok r) && true)
    read text (Ok t) = refl
    read text (Err f) = refl

    by : (o : Option (List ℕ)) → is_none (option_map (λ f. UnreadablePolicy namespace w.key (text_fault f)) (option_and_then (λ text. result_err (policy_or_fault text)) o)) ≡ list_all (λ text. is_some (result_ok (policy_or_fault text))) (option_to_list o)
    by None = refl
    by (Some text) = read text (policy_or_fault text)

-- ---- sets

five : (a b c d e : Option FormFault) → is_none (first_there (a ∷ b ∷ c ∷ d ∷ e ∷ [])) ≡ (is_none a && is_none b && is_none c && is_none d && is_none e)
five (Some x) b c d e = refl
five None (Some x) c d e = refl
five None None (Some x) d e = refl
five None None None (Some x) e = refl
five None None None None (Some x) = refl
five None None None None None = refl

set_in_form : (n : NsSet) → is_none (set_fault n) ≡ is_set_in_form n
set_in_form n =
    five (option_map (KeyRepeats n.name Reads) (first_repeated (map (λ r. r.key) n.reads)))
    (option_map (KeyRepeats n.name Writes) (first_repeated (map (λ w. w.key) n.writes)))
    (option_map (KeyRepeats n.name PolicyWrites) (first_repeated (map (λ w. w.key) n.policy_writes)))
    (ranges_fault n.name 0 n.ranges)
    (first_there (map (policy_fault n.name) n.policy_writes))
    ∙ and-same (and-same (and-same (and-same (key_repeats (KeyRepeats n.name Reads) (map (λ r. r.key) n.reads))
    (key_repeats (KeyRepeats n.name Writes) (map (λ w. w.key) n.writes)))
    (key_repeats (KeyRepeats n.name PolicyWrites) (map (λ w. w.key) n.policy_writes)))
    (ranges_in_form n.name 0 n.ranges))
    (none-first_there (policy_fault n.name) n.policy_writes ∙ all-same (λ w. is_none (policy_fault n.name w)) has_policy_in_form (policy_in_form n.name) n.policy_writes)

pub form-none : (tx : Tx) → is_none (form_fault tx) ≡ is_in_form tx
form-none tx =
    none-or (option_map NamespaceRepeats (first_repeated (map (λ n. n.name) tx.namespaces))) (first_there (map set_fault tx.namespaces))
    ∙ and-same (key_repeats NamespaceRepeats (map (λ n. n.name) tx.namespaces))
    (none-first_there set_fault tx.namespaces ∙ all-same (λ n. is_none (set_fault n)) is_set_in_form set_in_form tx.namespaces)

pub form_fault_if : (tx : Tx) → is_in_form tx ≡ false → (f : FormFault) × (form_fault tx ≡ Some f)
form_fault_if tx e = some_if (form_fault tx) (form-none tx ∙ e)
