-- Why read and write sets aren't in form: their first fault. The names of the namespaces go first, and then each namespace
-- in order: its reads, writes and policy writes, where a key may repeat, its ranges, and the policies that it writes.
use Rattle.std.specs.Prelude.{ℕ, suc, List, [], ◌∷◌, map, if◌then◌else◌, Option, Some, None, option_map, option_and_then}
use Rattle.std.specs.Str.{bytes_eq}
use Rattle.std.specs.List.{list_any}
use Rattle.std.specs.Option.{option_or}
use Rattle.std.specs.Ordering.{is_lt}
use Rattle.std.specs.Result.{result_err}
use Rattle.transaction.specs.declared.transaction.Range.{Range}
use Rattle.transaction.specs.declared.transaction.PolicyWrite.{PolicyWrite}
use Rattle.transaction.specs.declared.transaction.NsSet.{NsSet}
use Rattle.transaction.specs.declared.transaction.Tx.{Tx}
use Rattle.values.specs.Order.{bytes_cmp}
use Rattle.policy.specs.Fault.{Fault, syntax_fault, role_fault, threshold_fault, depth_fault, size_fault}
use Rattle.policy.specs.Meaning.{policy_or_fault}
use Rattle.rules.specs.Ranges.{is_within}
use Rattle.reasons.specs.declared.form_fault.FormFault.{FormFault}
use Rattle.reasons.specs.declared.form_fault.FormFault.TheVariants.{NamespaceRepeats, KeyRepeats, ResultFalls, ResultLeaves, UnreadablePolicy}
use Rattle.reasons.specs.declared.key_list.KeyList.TheVariants.{Reads, Writes, PolicyWrites}
use Rattle.reasons.specs.declared.policy_text_fault.PolicyTextFault.{PolicyTextFault}
use Rattle.reasons.specs.declared.policy_text_fault.PolicyTextFault.TheVariants.{TooLarge, Syntax, Role, Threshold, TooDeep}
use Rattle.reasons.specs.declared.queried_range.QueriedRange.{QueriedRange}
use Rattle.reasons.specs.declared.range_result.RangeResult.{RangeResult}
use Rattle.reasons.specs.First.{first_there}

-- the first that stands again behind itself
abbrev pub first_repeated : List (List ℕ) → Option (List ℕ)
first_repeated [] = None
first_repeated (x ∷ xs) = if list_any (bytes_eq x) xs then Some x else first_repeated xs

-- the first key that isn't above the one before it, with its place, the first of these keys having this one
abbrev pub first_fallen : ℕ → List (List ℕ) → Option (ℕ × List ℕ)
first_fallen place [] = None
first_fallen place (x ∷ []) = None
first_fallen place (x ∷ y ∷ ys) = if is_lt (bytes_cmp x y) then first_fallen (suc place) (y ∷ ys) else Some (suc place, y)

-- the first key outside the bounds, and its place
abbrev pub first_outside : List ℕ → List ℕ → ℕ → List (List ℕ) → Option (ℕ × List ℕ)
first_outside start end place [] = None
first_outside start end place (x ∷ xs) = if is_within start end x then first_outside start end (suc place) xs else Some (place, x)

-- the range of a namespace
abbrev pub range_in : List ℕ → Range → QueriedRange
range_in namespace r = record { namespace = namespace; start = r.start; end = r.end }

-- a result of the range at this place of a namespace, with its own place
abbrev pub result_in : List ℕ → ℕ → Range → ℕ × List ℕ → RangeResult
result_in namespace range_place r found = record { range = range_in namespace r; range_place = range_place; place = found.0; key = found.1 }

-- the first result that falls, else the first one outside the range
abbrev pub range_fault : List ℕ → ℕ → Range → Option FormFault
range_fault namespace range_place r =
    option_or (option_map (λ found. ResultFalls (result_in namespace range_place r found)) (first_fallen 0 (map (λ x. x.key) r.results)))
    (option_map (λ found. ResultLeaves (result_in namespace range_place r found)) (first_outside r.start r.end 0 (map (λ x. x.key) r.results)))

-- the first fault of these ranges, of which the first has this place
abbrev pub ranges_fault : List ℕ → ℕ → List Range → Option FormFault
ranges_fault namespace range_place [] = None
ranges_fault namespace range_place (r ∷ rs) = option_or (range_fault namespace range_place r) (ranges_fault namespace (suc range_place) rs)

abbrev pub text_fault : Fault → PolicyTextFault
text_fault size_fault = TooLarge
text_fault syntax_fault = Syntax
text_fault role_fault = Role
text_fault threshold_fault = Threshold
text_fault depth_fault = TooDeep

-- what is wrong with a policy that is written
abbrev pub policy_fault : List ℕ → PolicyWrite → Option FormFault
policy_fault namespace w = option_map (λ f. UnreadablePolicy namespace w.key (text_fault f)) (option_and_then (λ text. result_err (policy_or_fault text)) w.policy)

-- the first of these faults
abbrev pub set_fault : NsSet → Option FormFault
set_fault n = first_there (
    option_map (KeyRepeats n.name Reads) (first_repeated (map (λ r. r.key) n.reads))
    ∷ option_map (KeyRepeats n.name Writes) (first_repeated (map (λ w. w.key) n.writes))
    ∷ option_map (KeyRepeats n.name PolicyWrites) (first_repeated (map (λ w. w.key) n.policy_writes))
    ∷ ranges_fault n.name 0 n.ranges
    ∷ first_there (map (policy_fault n.name) n.policy_writes)
    ∷ [])

-- a namespace that repeats, else the first fault of the first set that has one
abbrev pub form_fault : Tx → Option FormFault
form_fault tx = option_or (option_map NamespaceRepeats (first_repeated (map (λ n. n.name) tx.namespaces))) (first_there (map set_fault tx.namespaces))
