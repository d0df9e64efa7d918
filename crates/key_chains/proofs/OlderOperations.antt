-- From all operations on a key to those before a candidate.
use Rattle.std.proofs.Common.{◌≡◌, ◌⊎◌, ℕ, zero, suc, ◌+◌, ◌-◌, ◌<◌, ◌≤◌, Bool, true, false, cond, leb, nat_lt, List, ◌∷◌, ◌++◌, length, Option, Some, None, refl, sym, ap, ◌∙◌, arith, inl, inr}
use Rattle.std.specs.Prelude.{option_map, option_to_list}
use Rattle.std.proofs.Math.ListN.{get_or-eq_default}
use Rattle.std.proofs.lemmas.Bool.Decides.{leb_tells, nat_tests}
use Rattle.std.proofs.lemmas.Bool.{lt-ltb}
use Rattle.rules.specs.declared.early_flag.EarlyFlag.TheVariants.{BadPayload}
use Rattle.rules.specs.State.{StateKey}
use Rattle.rules.specs.Candidate.{Candidate, flagged}
use Rattle.key_chains.specs.declared.operation.Kind.{Kind}
use Rattle.key_chains.specs.declared.operation.Operation.{Operation}
use Rattle.key_chains.specs.Operations.{candidate_in, kind_by, operations}
use Rattle.key_chains.specs.Older.{older_than}

module _ (cs : List Candidate) (k : StateKey) where
  not_before : (n i : ℕ) → i ≤ n → nat_lt n i ≡ false
  not_before n i le = grind (arith, nat_tests)

  one : ℕ → Option Kind → List Operation
  one n kind = option_to_list (option_map (λ x. record { tx = n; kind = x }) kind)

  skipped : (n i : ℕ) (kind : Option Kind) (os : List Operation) → i ≤ n → older_than i (one n kind ++ os) ≡ older_than i os
  unfolding one
  skipped n i None os le = refl
  skipped n i (Some kind) os le = ap (λ (b : Bool). cond b (record { tx = n; kind = kind } ∷ os) (older_than i os)) (not_before n i le)

  stays : (n i : ℕ) (kind : Option Kind) (os : List Operation) → n < i → older_than i os ≡ os → older_than i (one n kind ++ os) ≡ one n kind ++ os
  unfolding one
  stays n i None os lt same = same
  stays n i (Some kind) os lt same = ap (λ (b : Bool). cond b (record { tx = n; kind = kind } ∷ os) (older_than i os)) (lt-ltb n i lt)

  all_older : (i n : ℕ) → n ≤ i → older_than i (operations cs k n) ≡ operations cs k n
  unfolding operations one
  all_older i zero le = refl
  all_older i (suc n) le = stays n i (kind_by (candidate_in cs n) k) (operations cs k n) (omega arith) (all_older i n (omega arith))

  before_it : (i n : ℕ) → i ≤ n → older_than i (operations cs k n) ≡ operations cs k i
  unfolding operations one
  before_it i zero le = let e : i ≡ 0 = omega arith in ap (operations cs k) (sym e)
  before_it i (suc n) le = by (leb_tells i n) (before_it i n)
    where
      by : ((leb i n ≡ true) × (i ≤ n)) ⊎ ((leb i n ≡ false) × (n < i)) → (i ≤ n → older_than i (operations cs k n) ≡ operations cs k i) → older_than i (operations cs k (suc n)) ≡ operations cs k i
      by (inl d) earlier = skipped n i (kind_by (candidate_in cs n) k) (operations cs k n) d.1 ∙ earlier d.1
      by (inr d) earlier = let e : suc n ≡ i = omega arith in ap (λ (m : ℕ). older_than i (operations cs k m)) e ∙ all_older i i (omega arith)

  -- nobody writes behind the end
  past_end : (d : ℕ) → operations cs k (length cs + d) ≡ operations cs k (length cs)
  unfolding operations
  past_end zero = let e : length cs + 0 ≡ length cs = omega arith in ap (operations cs k) e
  past_end (suc d) =
      let e : length cs + suc d ≡ suc (length cs + d) = omega arith in
      let past : length cs ≤ length cs + d = omega arith in
      ap (operations cs k) e
      ∙ ap (λ (c : Candidate). option_to_list (option_map (λ kind. record { tx = length cs + d; kind = kind }) (kind_by c k)) ++ operations cs k (length cs + d)) (get_or-eq_default cs (flagged BadPayload) past)
      ∙ past_end d

  pub older_operations : (i : ℕ) → older_than i (operations cs k (length cs)) ≡ operations cs k i
  older_operations i = by (leb_tells i (length cs))
    where
      by : ((leb i (length cs) ≡ true) × (i ≤ length cs)) ⊎ ((leb i (length cs) ≡ false) × (length cs < i)) → older_than i (operations cs k (length cs)) ≡ operations cs k i
      by (inl d) = before_it i (length cs) d.1
      by (inr d) =
          let more : length cs + (i - length cs) ≡ i = omega (arith, d.1) in
          all_older i (length cs) (omega (arith, d.1)) ∙ sym (past_end (i - length cs)) ∙ ap (operations cs k) more
