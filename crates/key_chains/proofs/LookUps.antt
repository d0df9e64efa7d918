-- What the chains of a whole block answer.
use Rattle.std.proofs.Common.{◌≡◌, ◌⊎◌, inl, inr, ℕ, zero, suc, ◌+◌, ◌-◌, ◌<◌, ◌≤◌, leb, Bool, true, false, cond, List, [], ◌∷◌, ◌++◌, length, get_or, map, Option, Some, None, refl, sym, ap, subst, ◌∙◌, arith, length-append}
use Rattle.std.specs.Prelude.{slice_get, option_map}
use Rattle.std.proofs.Math.ListN.{get_or-append, get_or-eq_default}
use Rattle.std.proofs.Math.Seq.{get_or-append_seam}
use Rattle.std.proofs.lemmas.Bool.Decides.{leb_tells}
use Rattle.std.proofs.lemmas.List.{append-nil, length-map, get_or-append-add}
use Rattle.rules.specs.declared.early_flag.EarlyFlag.TheVariants.{BadPayload}
use Rattle.rules.specs.State.{StateKey, is_same_key}
use Rattle.rules.proofs.Keys.{same_key_is}
use Rattle.rules.specs.Candidate.{Candidate, flagged}
use Rattle.key_chains.specs.declared.chains.Chains.{Chains}
use Rattle.key_chains.specs.declared.chains.Written.{Written}
use Rattle.key_chains.specs.Linked.{chain_in, IsLink}
use Rattle.key_chains.specs.Numbers.{number_in}
use Rattle.key_chains.specs.Operations.{candidate_in, operations}
use Rattle.key_chains.specs.PolicyWriters.{policy_writers}
use Rattle.key_chains.specs.Job.{read_by, written_by}
use Rattle.key_chains.specs.Building.{gathered, starts, lists_read, lists_touched, keys_written}
use Rattle.key_chains.specs.Built.{IsBuilt}
use Rattle.key_chains.proofs.Finishing.{gathered-more, starts-more, same_lengths}

-- ---- lists one behind the other

module _ {X : Type 0} (give : ℕ → List X) where
  length-starts : (n : ℕ) → length (starts give n) ≡ n
  unfolding starts
  length-starts zero = refl
  length-starts (suc n) = length-append (starts give n) (length (gathered give n) ∷ []) ∙ (let h = length-starts n in omega arith)

  pub start_at : (n i d : ℕ) → i < n → get_or (starts give n) i d ≡ length (gathered give i)
  start_at zero i d lt = absurd (omega arith)
  start_at (suc n) i d lt = ap (λ (l : List ℕ). get_or l i d) (starts-more give n) ∙ by (leb_tells (suc i) n) (start_at n i d)
    where
      by : ((leb (suc i) n ≡ true) × (suc i ≤ n)) ⊎ ((leb (suc i) n ≡ false) × (n < suc i)) → (i < n → get_or (starts give n) i d ≡ length (gathered give i)) → get_or (starts give n ++ length (gathered give n) ∷ []) i d ≡ length (gathered give i)
      by (inl h) later = get_or-append (starts give n) (length (gathered give n) ∷ []) d i (omega (arith, length-starts n, h.1)) ∙ later h.1
      by (inr h) later =
          let last : i ≡ length (starts give n) = omega (arith, length-starts n, h.1, lt) in
          let same : n ≡ i = omega (arith, h.1, lt) in
          ap (λ (m : ℕ). get_or (starts give n ++ length (gathered give n) ∷ []) m d) last ∙ get_or-append_seam (starts give n) (length (gathered give n)) [] d ∙ ap (λ (m : ℕ). length (gathered give m)) same

  pub length-gathered : (n : ℕ) → length (gathered give (suc n)) ≡ length (gathered give n) + length (give n)
  length-gathered n = ap length (gathered-more give n) ∙ length-append (gathered give n) (give n)

  pub below_end : (n i r : ℕ) → i < n → r < length (give i) → length (gathered give i) + r < length (gathered give n)
  below_end zero i r lt below = absurd (omega arith)
  below_end (suc n) i r lt below = by (leb_tells (suc i) n) (below_end n i r)
    where
      by : ((leb (suc i) n ≡ true) × (suc i ≤ n)) ⊎ ((leb (suc i) n ≡ false) × (n < suc i)) → (i < n → r < length (give i) → length (gathered give i) + r < length (gathered give n)) → length (gathered give i) + r < length (gathered give (suc n))
      by (inl h) later = omega (arith, later h.1 below, length-gathered n)
      by (inr h) later = let same : n ≡ i = omega (arith, h.1, lt) in subst (λ (m : ℕ). length (gathered give i) + r < length (gathered give (suc m))) (sym same) (omega (arith, below, length-gathered i))

  pub fits : (n i : ℕ) → i < n → length (give i) ≤ length (gathered give n)
  fits n i lt = by (leb_tells 1 (length (give i)))
    where
      by : ((leb 1 (length (give i)) ≡ true) × (1 ≤ length (give i))) ⊎ ((leb 1 (length (give i)) ≡ false) × (length (give i) < 1)) → length (give i) ≤ length (gathered give n)
      by (inl h) = let last = below_end n i (length (give i) - 1) lt (omega (arith, h.1)) in omega (arith, last, h.1)
      by (inr h) = omega (arith, h.1)

  pub gathered_at : (n i r : ℕ) (d : X) → i < n → r < length (give i) → get_or (gathered give n) (length (gathered give i) + r) d ≡ get_or (give i) r d
  gathered_at zero i r d lt below = absurd (omega arith)
  gathered_at (suc n) i r d lt below = ap (λ (l : List X). get_or l (length (gathered give i) + r) d) (gathered-more give n) ∙ by (leb_tells (suc i) n) (gathered_at n i r d)
    where
      by : ((leb (suc i) n ≡ true) × (suc i ≤ n)) ⊎ ((leb (suc i) n ≡ false) × (n < suc i)) → (i < n → r < length (give i) → get_or (gathered give n) (length (gathered give i) + r) d ≡ get_or (give i) r d)
          → get_or (gathered give n ++ give n) (length (gathered give i) + r) d ≡ get_or (give i) r d
      by (inl h) later = get_or-append (gathered give n) (give n) d (length (gathered give i) + r) (below_end n i r h.1 below) ∙ later h.1 below
      by (inr h) later =
          let same : i ≡ n = omega (arith, h.1, lt) in
          ap (λ (m : ℕ). get_or (gathered give n ++ give n) (length (gathered give m) + r) d) same ∙ get_or-append-add (gathered give n) (give n) r d ∙ ap (λ (m : ℕ). get_or (give m) r d) (sym same)

-- ---- links

pub mapped : {A B : Type 0} (f : A → B) (xs : List A) (n : ℕ) (a : A) (b : B) → n < length xs → get_or (map f xs) n b ≡ f (get_or xs n a)
mapped f [] n a b lt = absurd (omega arith)
mapped f (x ∷ xs) zero a b lt = refl
mapped f (x ∷ xs) (suc n) a b lt = mapped f xs n a b (omega arith)

pub at_key : {A B : Type 0} (f : A → B) (xs : List A) (n : ℕ) (b : B) (a : A) → slice_get xs n ≡ Some a → get_or (map f xs) n b ≡ f a
at_key f [] n b a e = absurd cc
at_key f (x ∷ xs) zero b a e = let same : x ≡ a = cc in ap f same
at_key f (x ∷ xs) (suc n) b a e = at_key f xs n b a e

pub here_is : {A : Type 0} (xs : List A) (n : ℕ) (a : A) → slice_get xs n ≡ Some a → get_or xs n a ≡ a
here_is [] n a e = absurd cc
here_is (x ∷ xs) zero a e = cc
here_is (x ∷ xs) (suc n) a e = here_is xs n a e

-- a candidate that does anything is one of the block's
pub is_there : {X : Type 0} (cs : List Candidate) (i r : ℕ) (does : Candidate → List X) → length (does (flagged BadPayload)) ≡ 0 → r < length (does (candidate_in cs i)) → i < length cs
is_there cs i r does nothing lt = by (leb_tells (suc i) (length cs))
  where
    by : ((leb (suc i) (length cs) ≡ true) × (suc i ≤ length cs)) ⊎ ((leb (suc i) (length cs) ≡ false) × (length cs < suc i)) → i < length cs
    by (inl h) = h.1
    by (inr h) =
        let past : length cs ≤ i = omega (arith, h.1) in
        let none : length (does (candidate_in cs i)) ≡ 0 = ap (λ (c : Candidate). length (does c)) (get_or-eq_default cs (flagged BadPayload) past) ∙ nothing in
        absurd (omega (arith, none, lt))

module _ (cs : List Candidate) (n i r : ℕ) (c : Chains) (b : IsBuilt cs n n 0 c) (lt : i < n) where
  pub first_read : (d : ℕ) → get_or c.first_reads.items i d ≡ length (gathered (lists_read cs) i)
  first_read d = ap (λ (l : List ℕ). get_or l i d) b.first_reads ∙ start_at (lists_read cs) n i d lt

  pub first_reads_there : i < length c.first_reads.items
  first_reads_there = let h : length c.first_reads.items ≡ n = ap length b.first_reads ∙ length-starts (lists_read cs) n in omega (arith, h, lt)

  pub first_written_there : i < length c.first_written.items
  first_written_there = let h : length c.first_written.items ≡ n = ap length b.first_written ∙ length-starts (keys_written cs) n in omega (arith, h, lt)

  pub first_key : (d : ℕ) → get_or c.first_written.items i d ≡ length (gathered (keys_written cs) i)
  first_key d = ap (λ (l : List ℕ). get_or l i d) b.first_written ∙ start_at (keys_written cs) n i d lt

  pub reads_fit : length (read_by (candidate_in cs i)) ≤ length c.reads.items
  reads_fit =
      let h : length c.reads.items ≡ length (gathered (lists_read cs) n) = sym (length-map c.reads.items (chain_in c.operations.0)) ∙ ap length b.reads.lead in
      omega (arith, h, fits (lists_read cs) n i lt, length-map (read_by (candidate_in cs i)) (λ k. operations cs k i))

  module _ (below : r < length (read_by (candidate_in cs i))) where
    own : r < length (lists_read cs i)
    own = omega (arith, below, length-map (read_by (candidate_in cs i)) (λ k. operations cs k i))

    pub read_there : length (gathered (lists_read cs) i) + r < length c.reads.items
    read_there =
        let h : length c.reads.items ≡ length (gathered (lists_read cs) n) = sym (length-map c.reads.items (chain_in c.operations.0)) ∙ ap length b.reads.lead in
        omega (arith, h, below_end (lists_read cs) n i r lt own)

    pub read_link : (d : Option ℕ) → IsLink c.operations.0 (get_or c.reads.items (length (gathered (lists_read cs) i) + r) d)
    read_link d = b.reads.are_links (length (gathered (lists_read cs) i) + r) d read_there

    pub read_leads : (d : Option ℕ) → chain_in c.operations.0 (get_or c.reads.items (length (gathered (lists_read cs) i) + r) d) ≡ get_or (lists_read cs i) r []
    read_leads d =
        sym (mapped (chain_in c.operations.0) c.reads.items (length (gathered (lists_read cs) i) + r) d [] read_there) ∙ ap (λ l. get_or l (length (gathered (lists_read cs) i) + r) []) b.reads.lead ∙ gathered_at (lists_read cs) n i r [] lt own

module _ (cs : List Candidate) (n i r : ℕ) (c : Chains) (b : IsBuilt cs n n 0 c) (lt : i < n) (below : r < length (written_by (candidate_in cs i))) where
  as_many : (m : ℕ) → length (gathered (lists_touched cs) m) ≡ length (gathered (keys_written cs) m)
  as_many = same_lengths (lists_touched cs) (keys_written cs) (λ m. length-map (keys_written cs m) (λ k. policy_writers cs k m))

  own_key : r < length (lists_touched cs i)
  own_key = omega (arith, below, length-map (keys_written cs i) (λ k. policy_writers cs k i))

  all_writers : map (chain_in c.policy_writers.0) (map (λ w. w.policy_writers) c.written.items) ≡ gathered (lists_touched cs) n
  all_writers = b.writers.lead ∙ append-nil (gathered (lists_touched cs) n)

  links_there : length (map (λ w. w.policy_writers) c.written.items) ≡ length (gathered (lists_touched cs) n)
  links_there = sym (length-map (map (λ w. w.policy_writers) c.written.items) (chain_in c.policy_writers.0)) ∙ ap length all_writers

  pub key_there : length (gathered (keys_written cs) i) + r < length c.written.items
  key_there =
      let h = links_there in
      let g : length (map (λ w. w.policy_writers) c.written.items) ≡ length c.written.items = length-map c.written.items (λ w. w.policy_writers) in
      omega (arith, h, g, as_many i, below_end (lists_touched cs) n i r lt own_key)

  pub writers_link : (d : Written) → IsLink c.policy_writers.0 (get_or c.written.items (length (gathered (keys_written cs) i) + r) d).policy_writers
  writers_link d =
      let place : ℕ = length (gathered (keys_written cs) i) + r in
      let here : place < length (map (λ w. w.policy_writers) c.written.items) = omega (arith, key_there, length-map c.written.items (λ w. w.policy_writers)) in
      subst (λ (l : Option ℕ). IsLink c.policy_writers.0 l) (mapped (λ w. w.policy_writers) c.written.items place d None key_there) (b.writers.are_links place None here)

  pub writers_lead : (d : Written) → chain_in c.policy_writers.0 (get_or c.written.items (length (gathered (keys_written cs) i) + r) d).policy_writers ≡ get_or (lists_touched cs i) r []
  writers_lead d =
      let place : ℕ = length (gathered (keys_written cs) i) + r in
      let here : place < length (map (λ w. w.policy_writers) c.written.items) = omega (arith, key_there, length-map c.written.items (λ w. w.policy_writers)) in
      ap (chain_in c.policy_writers.0) (sym (mapped (λ w. w.policy_writers) c.written.items place d None key_there))
      ∙ sym (mapped (chain_in c.policy_writers.0) (map (λ w. w.policy_writers) c.written.items) place None [] here)
      ∙ ap (λ l. get_or l place []) all_writers
      ∙ ap (λ (m : ℕ). get_or (gathered (lists_touched cs) n) (m + r) []) (sym (as_many i))
      ∙ gathered_at (lists_touched cs) n i r [] lt own_key

  pub number_leads : (d : Written) (k : StateKey) → slice_get (written_by (candidate_in cs i)) r ≡ Some k → Some (get_or c.written.items (length (gathered (keys_written cs) i) + r) d).number ≡ number_in c.keys k
  number_leads d k here =
      let place : ℕ = length (gathered (keys_written cs) i) + r in
      sym (mapped (λ (w : Written). Some w.number) c.written.items place d None key_there)
      ∙ ap (λ l. get_or l place None) (b.numbers ∙ ap (map (number_in c.keys)) (append-nil (gathered (keys_written cs) n)))
      ∙ mapped (number_in c.keys) (gathered (keys_written cs) n) place k None (below_end (keys_written cs) n i r lt below)
      ∙ ap (number_in c.keys) (gathered_at (keys_written cs) n i r k lt below ∙ here_is (written_by (candidate_in cs i)) r k here)

-- ---- the place of a key

pub placed : (ks : List StateKey) (k : StateKey) (n : ℕ) → number_in ks k ≡ Some n → slice_get ks n ≡ Some k
placed [] k n e = absurd cc
placed (x ∷ ks) k n e = by (placed ks k) (is_same_key k x) refl e
  where
    later : ((m : ℕ) → number_in ks k ≡ Some m → slice_get ks m ≡ Some k) → (m : Option ℕ) → number_in ks k ≡ m → option_map suc m ≡ Some n → slice_get (x ∷ ks) n ≡ Some k
    later rest None is e = absurd cc
    later rest (Some m) is e = let same : suc m ≡ n = cc in ap (slice_get (x ∷ ks)) (sym same) ∙ rest m is

    by : ((m : ℕ) → number_in ks k ≡ Some m → slice_get ks m ≡ Some k) → (b : Bool) → is_same_key k x ≡ b → cond b (Some 0) (option_map suc (number_in ks k)) ≡ Some n → slice_get (x ∷ ks) n ≡ Some k
    by rest true same e = let first : 0 ≡ n = cc in ap (slice_get (x ∷ ks)) (sym first) ∙ ap Some (sym (same_key_is k x same))
    by rest false apart e = later rest (number_in ks k) refl e
