-- One key more that a candidate writes.
use Rattle.std.proofs.Common.{◌≡◌, ◌≢◌, ℕ, zero, suc, Bool, true, false, cond, ◌||◌, List, [], ◌∷◌, ◌++◌, get_or, map, take, All, Option, Some, None, refl, sym, ap, subst, ◌∙◌, arith}
use Rattle.std.specs.Prelude.{option_map, slice_get, option_to_list}
use Rattle.std.specs.declared.cmp.Ordering.TheVariants.{Less}
use Rattle.std.specs.List.{AllByRecursion}
use Rattle.std.specs.List.Sorted.{IsStrictlySortedBy}
use Rattle.std.proofs.lemmas.List.{map-append}
use Rattle.std.proofs.lemmas.List.Folds.{list_any-append}
use Rattle.std.proofs.lemmas.List.Elements.{All-append}
use Rattle.rules.specs.State.{StateKey, key_cmp, is_same_key, is_among}
use Rattle.rules.specs.Candidate.{Candidate}
use Rattle.rules.specs.Job.{touched_by}
use Rattle.rules.proofs.Booleans.{or-true, or-false}
use Rattle.rules.proofs.Keys.{same_key_is, same_as_itself}
use Rattle.key_chains.specs.declared.operation.Kind.{Kind}
use Rattle.key_chains.specs.Linked.{KeyedLists, chain_in, list_of, IsLink, LinksStay}
use Rattle.key_chains.specs.Numbers.{number_in}
use Rattle.key_chains.specs.Operations.{candidate_in, kind_by, operations}
use Rattle.key_chains.specs.PolicyWriters.{policy_writers}
use Rattle.key_chains.specs.Building.{list_numbered, list_at, so_far, Lead}
use Rattle.key_chains.proofs.NumberedKeys.{apart}

-- ---- a key's number is its place

named : (x k : StateKey) (ks : List StateKey) (d : StateKey) → ((m : ℕ) → number_in ks k ≡ Some m → get_or ks m d ≡ k) → (b : Bool) (o : Option ℕ) (n : ℕ) → is_same_key k x ≡ b → number_in ks k ≡ o
    → cond b (Some 0) (option_map suc o) ≡ Some n → get_or (x ∷ ks) n d ≡ k
named x k ks d later true o zero same number e = sym (same_key_is k x same)
named x k ks d later true o (suc n) same number e = absurd cc
named x k ks d later false None n same number e = absurd cc
named x k ks d later false (Some m) zero same number e = absurd cc
named x k ks d later false (Some m) (suc n) same number e =
    let one : m ≡ n = cc in later n (number ∙ ap Some one)

pub number_names : (ks : List StateKey) (k : StateKey) (n : ℕ) (d : StateKey) → number_in ks k ≡ Some n → get_or ks n d ≡ k
number_names [] k n d e = absurd cc
number_names (x ∷ ks) k n d e = named x k ks d (λ m h. number_names ks k m d h) (is_same_key k x) (number_in ks k) n refl refl e

-- ---- a key isn't among those before it

above_it : (k w : StateKey) (ks : List StateKey) (p : ℕ) → AllByRecursion (λ y. key_cmp k y ≡ Less) ks → slice_get ks p ≡ Some w → key_cmp k w ≡ Less
above_it k w [] p h e = absurd cc
above_it k w (x ∷ ks) zero h e = let is : x ≡ w = cc in subst (λ (y : StateKey). key_cmp k y ≡ Less) is h.0
above_it k w (x ∷ ks) (suc p) h e = above_it k w ks p h.1 e

pub not_before_it : (ks : List StateKey) (w : StateKey) (p : ℕ) → IsStrictlySortedBy key_cmp ks → slice_get ks p ≡ Some w → is_among w (take p ks) ≡ false
unfolding IsStrictlySortedBy
not_before_it [] w p h e = absurd cc
not_before_it (x ∷ ks) w zero h e = refl
not_before_it (x ∷ ks) w (suc p) h e =
    ap (λ (b : Bool). b || is_among w (take p ks)) (apart x w (above_it x w ks p h.0 e)) ∙ not_before_it ks w p h.1 e

-- one item more of a list
pub take_one : {A : Type 0} (xs : List A) (p : ℕ) (x : A) → slice_get xs p ≡ Some x → take (suc p) xs ≡ take p xs ++ x ∷ []
take_one [] p x e = absurd cc
take_one (y ∷ xs) zero x e = let is : y ≡ x = cc in ap (λ z. z ∷ []) is
take_one (y ∷ xs) (suc p) x e = ap (λ l. y ∷ l) (take_one xs p x e)

pub map_one : {A B : Type 0} (f : A → B) (xs : List A) (p : ℕ) (x : A) → slice_get xs p ≡ Some x → take (suc p) (map f xs) ≡ take p (map f xs) ++ f x ∷ []
map_one f [] p x e = absurd cc
map_one f (y ∷ xs) zero x e = let is : y ≡ x = cc in ap (λ z. f z ∷ []) is
map_one f (y ∷ xs) (suc p) x e = ap (λ l. f y ∷ l) (map_one f xs p x e)

among_one : (k w : StateKey) (ks : List StateKey) (p : ℕ) → slice_get ks p ≡ Some w → is_among k (take (suc p) ks) ≡ (is_among k (take p ks) || is_same_key k w)
among_one k w ks p e =
    ap (is_among k) (take_one ks p w e) ∙ list_any-append (is_same_key k) (take p ks) (w ∷ []) ∙ ap (λ (b : Bool). is_among k (take p ks) || b) (or-false (is_same_key k w))

module _ {X : Type 0} where
  -- ---- the list of one key is another

  pub other_list : (keys : List StateKey) (old new : KeyedLists X) (n : ℕ) (xs : List X) (w : StateKey) → list_of new n ≡ xs → ((m : ℕ) → m ≢ n → list_of new m ≡ list_of old m) → number_in keys w ≡ Some n
      → (k : StateKey) → list_at keys new k ≡ cond (is_same_key k w) xs (list_at keys old k)
  other_list keys old new n xs w here others number k = by (is_same_key k w) refl (number_in keys k) refl
    where
      by : (b : Bool) → is_same_key k w ≡ b → (o : Option ℕ) → number_in keys k ≡ o → list_numbered new o ≡ cond b xs (list_numbered old o)
      by true same o e =
          let is : o ≡ Some n = sym e ∙ ap (number_in keys) (same_key_is k w same) ∙ number in ap (list_numbered new) is ∙ here
      by false differ None e = refl
      by false differ (Some m) e = others m (λ one. contradiction (
          sym (number_names keys k m k e) ∙ ap (λ (i : ℕ). get_or keys i k) one ∙ number_names keys w n k number))
        where
          contradiction : k ≡ w → ⊥
          contradiction is =
              let same : is_same_key k w ≡ true = ap (λ (x : StateKey). is_same_key k x) (sym is) ∙ same_as_itself k in absurd cc

  -- ---- lists so far

  pub so_far_here : (list : StateKey → ℕ → List X) (ks : List StateKey) (i p : ℕ) (w : StateKey) → IsStrictlySortedBy key_cmp ks → slice_get ks p ≡ Some w → so_far list ks i p w ≡ list w i
  so_far_here list ks i p w rise e = ap (λ (b : Bool). cond b (list w (suc i)) (list w i)) (not_before_it ks w p rise e)

  pub so_far_more : (list : StateKey → ℕ → List X) (ks : List StateKey) (i p : ℕ) (w : StateKey) (xs : List X) (old new : StateKey → List X) → slice_get ks p ≡ Some w → xs ≡ list w (suc i)
      → ((k : StateKey) → old k ≡ so_far list ks i p k) → ((k : StateKey) → new k ≡ cond (is_same_key k w) xs (old k)) → (k : StateKey) → new k ≡ so_far list ks i (suc p) k
  so_far_more list ks i p w xs old new e here before step k = step k ∙ by (is_same_key k w) refl ∙ ap (λ (b : Bool). cond b (list k (suc i)) (list k i)) (sym (among_one k w ks p e))
    where
      by : (b : Bool) → is_same_key k w ≡ b → cond b xs (old k) ≡ cond (is_among k (take p ks) || is_same_key k w) (list k (suc i)) (list k i)
      by true same =
          here ∙ ap (λ (x : StateKey). list x (suc i)) (sym (same_key_is k w same))
          ∙ ap (λ (b : Bool). cond b (list k (suc i)) (list k i)) (sym (ap (λ (b : Bool). is_among k (take p ks) || b) same ∙ or-true (is_among k (take p ks))))
      by false differ =
          before k ∙ ap (λ (b : Bool). cond b (list k (suc i)) (list k i)) (sym (ap (λ (b : Bool). is_among k (take p ks) || b) differ ∙ or-false (is_among k (take p ks))))

  -- ---- links

  pub lead_more : (lists : List (List X)) (links : List (Option ℕ)) (to : List (List X)) (link : Option ℕ) (x : List X) → Lead lists links to → IsLink lists link → chain_in lists link ≡ x → Lead lists (links ++ link ∷ []) (to ++ x ∷ [])
  lead_more lists links to link x l is e = record {
    are_links = All-append (IsLink lists) links (link ∷ []) l.are_links one;
    lead = map-append (chain_in lists) links (link ∷ []) ∙ (λ i. l.lead i ++ e i ∷ []);
  }
    where
      one : All (IsLink lists) (link ∷ [])
      one zero d lt = is
      one (suc n) d lt = absurd (omega arith)

  pub lead_stays : (old new : KeyedLists X) (links : List (Option ℕ)) (to : List (List X)) → LinksStay old new → Lead old.0 links to → Lead new.0 links to
  lead_stays old new links to stay l = record { are_links = λ n d lt. (stay (get_or links n d) (l.are_links n d lt)).0; lead = same links l.are_links ∙ l.lead }
    where
      same : (ls : List (Option ℕ)) → All (IsLink old.0) ls → map (chain_in new.0) ls ≡ map (chain_in old.0) ls
      same [] all = refl
      same (k ∷ ls) all = λ i. (stay k (all 0 k (omega arith))).1 i ∷ same ls (λ n d lt. all (suc n) d (omega arith)) i

-- ---- what candidate i adds to a list

pub operations_more : (cs : List Candidate) (w : StateKey) (i : ℕ) (kind : Kind) → kind_by (candidate_in cs i) w ≡ Some kind → (record { tx = i; kind = kind }) ∷ operations cs w i ≡ operations cs w (suc i)
unfolding operations
operations_more cs w i kind e = ap (λ (o : Option Kind). option_to_list (option_map (λ k. record { tx = i; kind = k }) o) ++ operations cs w i) (sym e)

pub writers_more : (cs : List Candidate) (w : StateKey) (i : ℕ) (b : Bool) → is_among w (touched_by (candidate_in cs i)) ≡ b → cond b (i ∷ policy_writers cs w i) (policy_writers cs w i) ≡ policy_writers cs w (suc i)
unfolding policy_writers
writers_more cs w i b e = ap (λ (x : Bool). cond x (i ∷ policy_writers cs w i) (policy_writers cs w i)) (sym e)
