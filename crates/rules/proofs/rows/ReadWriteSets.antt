-- Read and write sets that are in form, and what is refused.
use Rattle.std.proofs.Common.{◌≡◌, ℕ, true, List, [], ◌∷◌, Some, refl}
use Rattle.std.specs.Prelude.{codes}
use Rattle.rules.specs.declared.flag.Flag.TheVariants.{Valid, BadRwset, InvalidChaincode}
use Rattle.transaction.specs.declared.transaction.Range.{Range}
use Rattle.transaction.specs.declared.transaction.Tx.{Tx}
use Rattle.rules.specs.State.{with_changes}
use Rattle.rules.specs.Job.{Job}
use Rattle.rules.specs.Fold.{running, flags}
use Rattle.transaction.specs.declared.transaction.KeyVersion.{KeyVersion}
use Rattle.transaction.specs.declared.transaction.PolicyWrite.{PolicyWrite}
use Rattle.rules.proofs.rows.Shared.{chaincode, k, at, read_at, absent, put, deleted, policy_put, policy_removed, set_of, over, tx, reading, scanning, writing, writing_policy, judged, block_over, first_peer_text, broken_text, a, c, found}
use Rattle.rules.proofs.rows.Looks.{scans}

abbrev found_at_0 : List ℕ → KeyVersion
found_at_0 key = found key (at 0 0)

abbrev d : List ℕ
d = codes "d"

abbrev between : List ℕ → List ℕ → List KeyVersion → Range
between start end results = record { start = start; end = end; exhausted = true; results = results }

-- block 1 over a and c, with this transaction alone
abbrev alone : Tx → Job
alone t = block_over (a ∷ c ∷ []) (judged t ∷ [])

-- ---- ranges

pub results_as_found : flags (alone (scanning (between a d (found_at_0 a ∷ found_at_0 c ∷ [])))) ≡ Valid ∷ []
unfolding running with_changes
results_as_found = simp scans refl

pub results_fall : flags (alone (scanning (between a d (found_at_0 c ∷ found_at_0 a ∷ [])))) ≡ BadRwset ∷ []
unfolding running with_changes
results_fall = simp scans refl

pub result_repeats : flags (alone (scanning (between a d (found_at_0 a ∷ found_at_0 a ∷ found_at_0 c ∷ [])))) ≡ BadRwset ∷ []
unfolding running with_changes
result_repeats = simp scans refl

-- the end is no key of the range
pub result_at_the_end : flags (alone (scanning (between a d (found_at_0 d ∷ [])))) ≡ BadRwset ∷ []
unfolding running with_changes
result_at_the_end = simp scans refl

pub result_before_the_start : flags (alone (scanning (between c d (found_at_0 a ∷ [])))) ≡ BadRwset ∷ []
unfolding running with_changes
result_before_the_start = simp scans refl

-- no key is in it
pub end_before_start : flags (alone (scanning (between d a []))) ≡ Valid ∷ []
unfolding running with_changes
end_before_start = simp scans refl

pub end_before_start_and_a_result : flags (alone (scanning (between d a (found_at_0 c ∷ [])))) ≡ BadRwset ∷ []
unfolding running with_changes
end_before_start_and_a_result = simp scans refl

pub end_before_start_and_its_start : flags (alone (scanning (between d a (found_at_0 d ∷ [])))) ≡ BadRwset ∷ []
unfolding running with_changes
end_before_start_and_its_start = simp scans refl

-- ---- repetitions

pub namespace_repeats : flags (alone (over (set_of chaincode [] [] [] [] ∷ set_of chaincode [] [] [] [] ∷ []))) ≡ BadRwset ∷ []
unfolding running with_changes
namespace_repeats = simp scans refl

pub read_repeats : flags (alone (reading (absent k ∷ absent k ∷ []))) ≡ BadRwset ∷ []
unfolding running with_changes
read_repeats = simp scans refl

pub write_repeats : flags (alone (writing (put k ∷ deleted k ∷ []))) ≡ BadRwset ∷ []
unfolding running with_changes
write_repeats = simp scans refl

pub policy_write_repeats : flags (alone (tx [] [] [] (policy_put k ∷ policy_removed k ∷ []))) ≡ BadRwset ∷ []
unfolding running with_changes
policy_write_repeats = simp scans refl

-- a key may be read, written, and have its policy written
pub once_in_each_list : flags (alone (tx (read_at a (at 0 0) ∷ []) [] (put a ∷ []) (policy_put a ∷ []))) ≡ Valid ∷ []
unfolding running with_changes
once_in_each_list = simp scans refl

pub same_key_in_two_namespaces : flags (alone (over (set_of chaincode (absent k ∷ []) [] [] [] ∷ set_of (codes "zz") (absent k ∷ []) [] [] [] ∷ []))) ≡ Valid ∷ []
unfolding running with_changes
same_key_in_two_namespaces = simp scans refl

-- ---- texts of policies

abbrev policy_text : List ℕ → PolicyWrite
policy_text text = record { key = a; policy = Some text }

pub text_of_a_policy : flags (alone (writing_policy (policy_text first_peer_text))) ≡ Valid ∷ []
unfolding running with_changes
text_of_a_policy = simp scans refl

pub text_that_ends_early : flags (alone (writing_policy (policy_text broken_text))) ≡ BadRwset ∷ []
unfolding running with_changes
text_that_ends_early = simp scans refl

pub text_of_a_strange_byte : flags (alone (writing_policy (policy_text (255 ∷ [])))) ≡ BadRwset ∷ []
unfolding running with_changes
text_of_a_strange_byte = simp scans refl

pub no_text : flags (alone (writing_policy (policy_removed a))) ≡ Valid ∷ []
unfolding running with_changes
no_text = simp scans refl

-- ---- the order of tests

-- a namespace that has no definition, and a key that repeats
pub form_goes_before_definitions : flags (alone (over (set_of (codes "zz") [] [] (put k ∷ put k ∷ []) [] ∷ []))) ≡ BadRwset ∷ []
unfolding running with_changes
form_goes_before_definitions = simp scans refl

pub policy_write_of_an_undefined_namespace : flags (alone (over (set_of (codes "zz") [] [] [] (policy_removed k ∷ []) ∷ []))) ≡ InvalidChaincode ∷ []
unfolding running with_changes
policy_write_of_an_undefined_namespace = simp scans refl
