-- What items leave unchanged.
use Rattle.std.proofs.Common.{◌≡◌, ◌≢◌, ℕ, suc, ◌+◌, ◌==◌, Bool, true, false, List, [], ◌∷◌, ◌++◌, length, Option, Some, None, refl, sym, ap, ◌∙◌, arith, length-append}
use Rattle.std.specs.Prelude.{if◌then◌else◌}
use Rattle.std.specs.FinMap.{insert}
use Rattle.std.proofs.lemmas.Bool.{false≢true, eqb-true}
use Rattle.transaction.specs.declared.item.Item.{Item}
use Rattle.transaction.specs.declared.item.Item.TheVariants as item
use Rattle.transaction.specs.declared.transaction.Tx.{Tx}
use Rattle.transaction.specs.declared.update.Update.{Update}
use Rattle.policy.specs.Meaning.{policy_of}
use Rattle.policy.specs.Tree.{Tree}
use Rattle.policy_eval.specs.Accepts.{Accepts}
use Rattle.channel.specs.Configuration.{Configuration}
use Rattle.rules.specs.declared.first_use.FirstUse.{FirstUse}
use Rattle.rules.specs.declared.flag.Flag.{Flag}
use Rattle.rules.specs.declared.flag.Flag.TheVariants.{Valid}
use Rattle.rules.specs.Flags.{is_valid}
use Rattle.rules.specs.Candidate.{origin_of}
use Rattle.rules.specs.World.{World}
use Rattle.theorem.specs.Serial.{Setting, SoFar, first_failed, all_pass, origin_tests, tests_before_reads, tests, applied, with_policy, with_use, policy_keys_of, taken, all_taken, setting_of, at_first, after_items}
use Rattle.theorem.proofs.ValidItems.{valid_alone}

not_valid : (f : Flag) → f ≢ Valid → is_valid f ≡ false
not_valid Valid apart = absurd (apart refl)
not_valid _ apart = refl

is_valid-true : (f : Flag) → is_valid f ≡ true → f ≡ Valid
is_valid-true Valid e = refl
is_valid-true _ e = absurd cc

module _ (s : Setting) (place : ℕ) (now : SoFar) (i : Item) where
  abbrev next : Bool → SoFar
  next b = if b then applied (record { block = s.number; tx = place }) i now else now

  module _ (invalid : first_failed (tests s now i) ≢ Valid) where
    pub state_kept : (taken s place now (Some i)).state ≡ now.state
    state_kept = ap (λ (b : Bool). (next b).state) (not_valid (first_failed (tests s now i)) invalid)

    pub history_kept : (taken s place now (Some i)).history ≡ now.history
    history_kept = ap (λ (b : Bool). (next b).history) (not_valid (first_failed (tests s now i)) invalid)

    pub policies_kept : (taken s place now (Some i)).policies ≡ now.policies
    policies_kept = ap (λ (b : Bool). (next b).policies) (not_valid (first_failed (tests s now i)) invalid)

    pub replaced_kept : (taken s place now (Some i)).replaced ≡ now.replaced
    replaced_kept = ap (λ (b : Bool). (next b).replaced) (not_valid (first_failed (tests s now i)) invalid)

  pub ids_kept : all_pass (origin_tests s i) ≡ false → (taken s place now (Some i)).first_uses ≡ now.first_uses
  ids_kept fault =
      let u : FirstUse = record { block = s.number; place = place; flag = first_failed (tests s now i) } in
      ap (λ (b : Bool). if b then with_use now.first_uses (origin_of i).id u else now.first_uses) fault

  pub keys_kept : all_pass (tests_before_reads s now i) ≡ false → (taken s place now (Some i)).policy_written ≡ now.policy_written
  keys_kept fault = ap (λ (b : Bool). if b then now.policy_written ++ policy_keys_of i else now.policy_written) fault

-- ---- several items

-- an item that isn't alone replaces no policy
module _ (s : Setting) (several : s.alone ≡ false) where
  item_policies : (place : ℕ) (now : SoFar) (i : Option Item) → ((taken s place now i).policies ≡ now.policies) × ((taken s place now i).replaced ≡ now.replaced)
  item_policies place now None = (refl, refl)
  item_policies place now (Some (item.Tx tx)) = by (is_valid (first_failed (tests s now (item.Tx tx))))
    where
      by : (b : Bool) → ((next s place now (item.Tx tx) b).policies ≡ now.policies) × ((next s place now (item.Tx tx) b).replaced ≡ now.replaced)
      by true = (refl, refl)
      by false = (refl, refl)
  item_policies place now (Some (item.Update u)) =
      let invalid : first_failed (tests s now (item.Update u)) ≢ Valid = λ valid. let wrong : false ≡ true = sym several ∙ valid_alone s now u valid in false≢true wrong in
      (policies_kept s place now (item.Update u) invalid, replaced_kept s place now (item.Update u) invalid)

  pub all_policies : (place : ℕ) (now : SoFar) (items : List (Option Item)) → ((all_taken s place now items).policies ≡ now.policies) × ((all_taken s place now items).replaced ≡ now.replaced)
  unfolding all_taken
  all_policies place now [] = (refl, refl)
  all_policies place now (i ∷ items) =
      let one = item_policies place now i in
      let rest = all_policies (suc place) (taken s place now i) items in
      (rest.0 ∙ one.0, rest.1 ∙ one.1)

one_flag : (s : Setting) (place : ℕ) (now : SoFar) (i : Option Item) → length (taken s place now i).flags ≡ length now.flags + 1
one_flag s place now None = length-append now.flags _
one_flag s place now (Some i) = length-append now.flags _

all_flags : (s : Setting) (place : ℕ) (now : SoFar) (items : List (Option Item)) → length (all_taken s place now items).flags ≡ length now.flags + length items
unfolding all_taken
all_flags s place now [] = omega arith
all_flags s place now (i ∷ items) = omega (arith, one_flag s place now i, all_flags s (suc place) (taken s place now i) items)

not_one : (n : ℕ) → n ≢ 1 → (n == 1) ≡ false
not_one n apart = by (n == 1) refl
  where
    by : (b : Bool) → (n == 1) ≡ b → b ≡ false
    by true e = absurd (apart (eqb-true n 1 e))
    by false e = refl

module _ (channel : Configuration) (accepts : Accepts) (w : World) (items : List (Option Item)) where
  pub several_policies : length items ≢ 1 → (after_items channel accepts w items).policies ≡ w.definitions
  several_policies several = (all_policies (setting_of channel accepts w items) (not_one (length items) several) 0 (at_first w) items).0

  pub flag_each : length (after_items channel accepts w items).flags ≡ length items
  flag_each = omega (arith, all_flags (setting_of channel accepts w items) 0 (at_first w) items)

-- ---- one item

one_of : {A : Type 0} (x y : A) → x ∷ [] ≡ y ∷ [] → x ≡ y
one_of x y e = cc

module _ (channel : Configuration) (accepts : Accepts) (w : World) where
  abbrev first : SoFar
  first = at_first w

  abbrev alone_in : Option Item → Setting
  alone_in i = setting_of channel accepts w (i ∷ [])

  pub update_replaces : (u : Update) (policy : Tree) → policy_of u.policy ≡ Some policy → (after_items channel accepts w (Some (item.Update u) ∷ [])).flags ≡ Valid ∷ []
      → (after_items channel accepts w (Some (item.Update u) ∷ [])).policies ≡ insert w.definitions u.namespace policy
  unfolding all_taken
  update_replaces u policy text valid =
      let flag = first_failed (tests (alone_in (Some (item.Update u))) first (item.Update u)) in
      let same : flag ≡ Valid = one_of flag Valid valid in
      ap (λ (f : Flag). (next (alone_in (Some (item.Update u))) 0 first (item.Update u) (is_valid f)).policies) same
      ∙ ap (λ (o : Option Tree). (with_policy first u.namespace o).policies) text

  pub transaction_replaces_none : (tx : Tx) → (after_items channel accepts w (Some (item.Tx tx) ∷ [])).policies ≡ w.definitions
  unfolding all_taken
  transaction_replaces_none tx = by (is_valid (first_failed (tests (alone_in (Some (item.Tx tx))) first (item.Tx tx))))
    where
      by : (b : Bool) → (next (alone_in (Some (item.Tx tx))) 0 first (item.Tx tx) b).policies ≡ w.definitions
      by true = refl
      by false = refl

  pub invalid_replaces_none : (i : Option Item) → (after_items channel accepts w (i ∷ [])).flags ≢ Valid ∷ [] → (after_items channel accepts w (i ∷ [])).policies ≡ w.definitions
  unfolding all_taken
  invalid_replaces_none None invalid = refl
  invalid_replaces_none (Some i) invalid = policies_kept (alone_in (Some i)) 0 first i (λ valid. invalid (ap (λ (f : Flag). f ∷ []) valid))
