-- Sets that aren't in form.
use Rattle.std.proofs.Common.{◌≡◌, ℕ, true, List, [], ◌∷◌, Some, None, refl}
use Rattle.std.specs.Prelude.{codes}
use Rattle.transaction.specs.declared.transaction.KeyVersion.{KeyVersion}
use Rattle.transaction.specs.declared.transaction.PolicyWrite.{PolicyWrite}
use Rattle.transaction.specs.declared.transaction.Range.{Range}
use Rattle.reasons.specs.declared.form_fault.FormFault.TheVariants.{NamespaceRepeats, KeyRepeats, ResultFalls, ResultLeaves, UnreadablePolicy}
use Rattle.reasons.specs.declared.key_list.KeyList.TheVariants.{Reads, Writes, PolicyWrites}
use Rattle.reasons.specs.declared.policy_text_fault.PolicyTextFault.TheVariants.{Syntax}
use Rattle.reasons.specs.declared.queried_range.QueriedRange.{QueriedRange}
use Rattle.reasons.specs.declared.range_result.RangeResult.{RangeResult}
use Rattle.reasons.specs.Form.{form_fault}
use Rattle.rules.proofs.rows.Shared.{chaincode, dd, zz, a, c, k, at, absent, found, put, deleted, policy_put, policy_removed, broken_text, set_of}
use Rattle.reasons.proofs.rows.Shared.{over, tx, reading, scanning}
use Rattle.reasons.proofs.rows.Looks.{looks}

-- ---- names and keys

-- zz stands twice too, but first behind cc
pub first_namespace_that_repeats : form_fault (over (set_of dd [] [] [] [] ∷ set_of chaincode [] [] [] [] ∷ set_of zz [] [] [] [] ∷ set_of zz [] [] [] [] ∷ set_of chaincode [] [] [] [] ∷ [])) ≡ Some (NamespaceRepeats chaincode)
first_namespace_that_repeats = refl

pub read_that_repeats : form_fault (reading (absent c ∷ absent a ∷ absent k ∷ absent k ∷ absent a ∷ [])) ≡ Some (KeyRepeats chaincode Reads a)
read_that_repeats = refl

-- a key may stand once in each list
pub write_that_repeats : form_fault (tx (absent k ∷ []) [] (put k ∷ deleted k ∷ []) (policy_put k ∷ [])) ≡ Some (KeyRepeats chaincode Writes k)
write_that_repeats = refl

pub policy_write_that_repeats : form_fault (tx (absent k ∷ []) [] (put k ∷ []) (policy_put k ∷ policy_removed k ∷ [])) ≡ Some (KeyRepeats chaincode PolicyWrites k)
policy_write_that_repeats = refl

pub names_go_before_keys : form_fault (over (set_of dd (absent k ∷ absent k ∷ []) [] [] [] ∷ set_of dd [] [] [] [] ∷ [])) ≡ Some (NamespaceRepeats dd)
names_go_before_keys = refl

pub first_namespace_goes_first : form_fault (over (set_of chaincode [] [] [] [] ∷ set_of dd [] [] (put a ∷ put a ∷ []) [] ∷ set_of zz (absent k ∷ absent k ∷ []) [] [] [] ∷ [])) ≡ Some (KeyRepeats dd Writes a)
first_namespace_goes_first = refl

-- ---- ranges

abbrev found_at_0 : List ℕ → KeyVersion
found_at_0 key = found key (at 0 0)

abbrev a_to_d : List KeyVersion → Range
a_to_d results = record { start = a; end = codes "d"; exhausted = true; results = results }

abbrev range_a_to_d : QueriedRange
range_a_to_d = record { namespace = chaincode; start = a; end = codes "d" }

abbrev result_of : ℕ → ℕ → List ℕ → RangeResult
result_of range_place place key = record { range = range_a_to_d; range_place = range_place; place = place; key = key }

pub result_that_falls : form_fault (scanning (a_to_d (found_at_0 c ∷ found_at_0 a ∷ []))) ≡ Some (ResultFalls (result_of 0 1 a))
result_that_falls = refl

pub result_that_repeats : form_fault (scanning (a_to_d (found_at_0 a ∷ found_at_0 c ∷ found_at_0 c ∷ found_at_0 a ∷ []))) ≡ Some (ResultFalls (result_of 0 2 c))
result_that_repeats = refl

-- the end is no key of the range
pub result_that_leaves : form_fault (scanning (a_to_d (found_at_0 a ∷ found_at_0 (codes "d") ∷ found_at_0 (codes "e") ∷ []))) ≡ Some (ResultLeaves (result_of 0 1 (codes "d")))
result_that_leaves = refl

-- e leaves the range, and then a falls
pub falls_go_before_leaves : form_fault (scanning (a_to_d (found_at_0 (codes "e") ∷ found_at_0 a ∷ []))) ≡ Some (ResultFalls (result_of 0 1 a))
falls_go_before_leaves = refl

pub second_range : form_fault (tx [] (a_to_d [] ∷ a_to_d (found_at_0 (codes "d") ∷ []) ∷ []) [] []) ≡ Some (ResultLeaves (result_of 1 0 (codes "d")))
second_range = refl

-- ---- policies

abbrev broken : List ℕ → PolicyWrite
broken key = record { key = key; policy = Some broken_text }

pub policy_that_is_unreadable : form_fault (tx [] [] [] (policy_put a ∷ broken k ∷ broken c ∷ [])) ≡ Some (UnreadablePolicy chaincode k Syntax)
policy_that_is_unreadable = simp looks refl

pub ranges_go_before_policies : form_fault (tx [] (a_to_d (found_at_0 (codes "d") ∷ []) ∷ []) [] (broken k ∷ [])) ≡ Some (ResultLeaves (result_of 0 0 (codes "d")))
ranges_go_before_policies = refl

pub in_form : form_fault (tx (absent k ∷ []) (a_to_d (found_at_0 a ∷ found_at_0 c ∷ []) ∷ []) (put k ∷ []) (policy_put k ∷ [])) ≡ None
in_form = simp looks refl
