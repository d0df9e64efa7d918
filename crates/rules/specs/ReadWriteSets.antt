-- Read and write sets in form: no namespace repeats, and no key in one list of reads, writes or policy writes; the keys of
-- a range's results strictly rise and stay in the range; policies that are written can be read.
use Rattle.std.specs.Prelude.{ℕ, List, [], ◌∷◌, Bool, true, not, ◌&&◌, map, is_some, option_to_list}
use Rattle.std.specs.Str.{bytes_eq}
use Rattle.std.specs.List.{list_any, list_all}
use Rattle.std.specs.FinMap.{is_sorted}
use Rattle.transaction.specs.declared.transaction.Range.{Range}
use Rattle.transaction.specs.declared.transaction.PolicyWrite.{PolicyWrite}
use Rattle.transaction.specs.declared.transaction.NsSet.{NsSet}
use Rattle.transaction.specs.declared.transaction.Tx.{Tx}
use Rattle.values.specs.Order.{bytes_cmp}
use Rattle.policy.specs.Meaning.{policy_of}
use Rattle.rules.specs.Ranges.{is_within, results_of}

abbrev pub are_distinct : List (List ℕ) → Bool
are_distinct [] = true
are_distinct (x ∷ xs) = not (list_any (bytes_eq x) xs) && are_distinct xs

-- each key is less than all behind it, and none leaves the range
abbrev pub has_results_in_form : Range → Bool
has_results_in_form r = is_sorted bytes_cmp (results_of r) && list_all (λ x. is_within r.start r.end x.key) r.results

-- a policy that is written is a text of the policy language
abbrev pub has_policy_in_form : PolicyWrite → Bool
has_policy_in_form w = list_all (λ text. is_some (policy_of text)) (option_to_list w.policy)

abbrev pub is_set_in_form : NsSet → Bool
is_set_in_form n =
    are_distinct (map (λ r. r.key) n.reads) && are_distinct (map (λ w. w.key) n.writes) && are_distinct (map (λ w. w.key) n.policy_writes)
    && list_all has_results_in_form n.ranges && list_all has_policy_in_form n.policy_writes

abbrev pub is_in_form : Tx → Bool
is_in_form tx = are_distinct (map (λ n. n.name) tx.namespaces) && list_all is_set_in_form tx.namespaces
