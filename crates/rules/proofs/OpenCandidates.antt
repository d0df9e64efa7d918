-- What is known of an open candidate.
use Rattle.std.proofs.Common.{◌≡◌, Bool, true, false, not, cond, Option, Some, None, List, refl, sym, ap, ◌∙◌}
use Rattle.std.specs.Prelude.{IsTrue}
use Rattle.std.specs.List.{list_all}
use Rattle.std.specs.FinMap.{is_sorted}
use Rattle.transaction.specs.declared.identity.Identity.{Identity}
use Rattle.transaction.specs.declared.transaction.Range.{Range}
use Rattle.transaction.specs.declared.transaction.Tx.{Tx}
use Rattle.values.specs.Order.{bytes_cmp}
use Rattle.policy_eval.specs.Accepts.{Accepts}
use Rattle.policy_eval.specs.Signers.{signers_of}
use Rattle.channel.specs.Configuration.{Configuration}
use Rattle.rules.specs.declared.early_flag.EarlyFlag.{EarlyFlag}
use Rattle.rules.specs.declared.early_flag.EarlyFlag.TheVariants.{DuplicateTxId, BadRwset, InvalidChaincode}
use Rattle.rules.specs.Ranges.{results_of}
use Rattle.rules.specs.ReadWriteSets.{has_results_in_form, is_set_in_form, is_in_form}
use Rattle.transaction.specs.declared.item.Item.{Item}
use Rattle.transaction.specs.declared.item.Item.TheVariants as item
use Rattle.rules.specs.Candidate.{opened, is_all_defined, origin_fault, content_fault, flagged_or, open_of, candidate_of}
use Rattle.rules.proofs.Booleans.{both_true}

-- ---- its sets are in form

-- the results of a range in form strictly rise
pub rising_results : (r : Range) → IsTrue (has_results_in_form r) → IsTrue (is_sorted bytes_cmp (results_of r))
rising_results r in_form = (both_true (is_sorted bytes_cmp (results_of r)) _ in_form).0

pub sets_in_form : (tx : Tx) → IsTrue (is_in_form tx) → IsTrue (list_all is_set_in_form tx.namespaces)
sets_in_form tx in_form = (both_true _ (list_all is_set_in_form tx.namespaces) in_form).1

-- ---- when a candidate is open

-- three tests that all pass
pub record HasNoContentFault (channel : Configuration) (used : Bool) (tx : Tx) : Type 0 where
  pub is_new : used ≡ false
  pub is_in_form : is_in_form tx ≡ true
  pub is_defined : is_all_defined channel.definitions tx ≡ true

three_tests : (used in_form defined : Bool) → cond (not used) (cond in_form (cond defined None (Some InvalidChaincode)) (Some BadRwset)) (Some DuplicateTxId) ≡ None → (used ≡ false) × (in_form ≡ true) × (defined ≡ true)
three_tests false true true e = (refl, refl, refl)
three_tests false true false e = absurd cc
three_tests false false defined e = absurd cc
three_tests true in_form defined e = absurd cc

pub no_content_fault : (channel : Configuration) (alone used : Bool) (tx : Tx) → content_fault channel alone used (item.Tx tx) ≡ None → HasNoContentFault channel used tx
no_content_fault channel alone used tx e =
    let tests = three_tests used (is_in_form tx) (is_all_defined channel.definitions tx) e in
    record { is_new = tests.0; is_in_form = tests.1; is_defined = tests.2 }

-- an open candidate is its transaction with its signers, without a fault
pub record IsOpenOf (channel : Configuration) (accepts : Accepts) (alone used : Bool) (i : Item) (t : Tx) (ss : List Identity) : Type 0 where
  pub same : i ≡ item.Tx t
  pub signers : ss ≡ signers_of accepts t
  pub origin : origin_fault channel accepts (item.Tx t) ≡ None
  pub content : content_fault channel alone used (item.Tx t) ≡ None

as_opened : (accepts : Accepts) (i : Item) (t : Tx) (signers : List Identity) → open_of accepts i ≡ opened t signers → (i ≡ item.Tx t) × (signers ≡ signers_of accepts t)
as_opened accepts (item.Tx tx) t signers e =
    let same : tx ≡ t = cc in
    let own : signers ≡ signers_of accepts tx = cc in
    (ap (λ (x : Tx). item.Tx x) same, own ∙ ap (signers_of accepts) same)
as_opened accepts (item.Update u) t signers e = absurd cc

pub open_only_if : (channel : Configuration) (accepts : Accepts) (alone used : Bool) (i : Item) (t : Tx) (signers : List Identity) → candidate_of channel accepts alone used (Some i) ≡ opened t signers → IsOpenOf channel accepts alone used i t signers
open_only_if channel accepts alone used i t signers e = by (origin_fault channel accepts i) refl (content_fault channel alone used i) refl e
  where
    by : (o : Option EarlyFlag) → origin_fault channel accepts i ≡ o → (p : Option EarlyFlag) → content_fault channel alone used i ≡ p
        → flagged_or o (flagged_or p (open_of accepts i)) ≡ opened t signers → IsOpenOf channel accepts alone used i t signers
    by (Some f) eo p ep is = absurd cc
    by None eo (Some f) ep is = absurd cc
    by None eo None ep is =
        let own = as_opened accepts i t signers is in
        record { same = own.0; signers = own.1; origin = ap (origin_fault channel accepts) (sym own.0) ∙ eo; content = ap (content_fault channel alone used) (sym own.0) ∙ ep }

pub open_if : (channel : Configuration) (accepts : Accepts) (alone used : Bool) (i : Item) → origin_fault channel accepts i ≡ None → content_fault channel alone used i ≡ None
    → candidate_of channel accepts alone used (Some i) ≡ open_of accepts i
open_if channel accepts alone used i eo ep = λ k. flagged_or (eo k) (flagged_or (ep k) (open_of accepts i))
